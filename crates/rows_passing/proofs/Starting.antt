-- The row of a call with operands, from its begin on.
use Rattle.std.proofs.Common.{◌≡◌, ℕ, suc, ◌<◌, List, [], Some, refl, sym, ap, subst, ◌∙◌}
use Rattle.std.specs.Prelude.{slice_get}
use Rattle.limbo_types.specs.Types.{Ty}
use Rattle.limbo_typed.specs.Typed as typed
use Rattle.core_code.specs.Code.{Instr, Call}
use Rattle.core_code.specs.Machine as code
use Rattle.core_typing.specs.Held as held
use Rattle.core_typing.specs.Going.{Agrees}
use Rattle.dis_meaning.specs.Process.{Frame, Process}
use Rattle.dis_memory.specs.Blocks.{World}
use Rattle.dis_memory.specs.Control.{with_frame_made}
use Rattle.value_words.specs.Facts.{Facts}
use Rattle.value_frames.specs.Frames.{linkage_bytes}
use Rattle.value_code.specs.Objects.{of_function}
use Rattle.value_follows.specs.Stands.{scope, GoesOn, ReferNowhere}
use Rattle.value_follows.specs.Sides.{sides}
use Rattle.value_follows.specs.Rows.{Base, RowGoes}
use Rattle.value_follows.proofs.Standing.{finds, same_some}
use Rattle.rows_boxes.proofs.Differing.{slots_differ}
use Rattle.rows_calling.specs.Rows.{FunctionsBegin}
use Rattle.rows_calling.proofs.OnTheWay.{On, row_code, reaches_it, on_ready, on_later}
use Rattle.rows_calling.proofs.Making.{Called, Made}
use Rattle.rows_calling.proofs.Framing.{zero_frame, framing}
use Rattle.rows_calling.proofs.Plain.{IsCalled, called_function}
use Rattle.rows_passing.specs.Rows.{ParametersPass, IsToldSo}
use Rattle.rows_passing.proofs.Moving.{nothing_written}
use Rattle.rows_passing.proofs.Passing.{IsTogether, together, box_of}
use Rattle.rows_passing.proofs.Steps.{Now, source}
use Rattle.rows_passing.proofs.Finishing.{callee, callee_named}
use Rattle.rows_passing.proofs.Arriving.{Goes, all_way, more_follow}
use Rattle.rows_passing.proofs.Framed.{frame_step}

-- where code goes on, the instruction there agrees with what is told
agrees : (m : typed.Module) (f : typed.Function) (pc : ℕ) (known : held.Slots) (instr : Instr) → GoesOn m f pc known
    → slice_get (of_function m f).code pc ≡ Some instr → Agrees (scope m f) f.of.answer (of_function m f).code pc known instr
agrees m f pc known instr goes here =
    let g = goes 1 in
    subst (Agrees (scope m f) f.of.answer (of_function m f).code pc known) (same_some g.0 instr (sym g.1 ∙ here)) g.3

-- so in front of a call it is told that they are a tuple of such as it takes
call_told : (m : typed.Module) (f : typed.Function) (pc : ℕ) (known : held.Slots) (t : Ty) (fn into a : ℕ) → GoesOn m f pc known
    → slice_get (of_function m f).code pc ≡ Some (Call t fn into (Some a)) → IsToldSo m f pc t fn a
call_told m f pc known t fn into a goes here =
    let found = finds m f pc known (Call t fn into (Some a)) goes here in
    let tells = agrees m f pc known (Call t fn into (Some a)) goes here in
    (found.0, tells.2 ∙ sym tells.1 ∙ ap held.type_forming found.2.2.1, found.1)

module _ (m : typed.Module) (b : Base m) (begins : FunctionsBegin m) (pass : ParametersPass m) (t : Ty) (fn into a : ℕ) where
  -- From where the operands are in the frame that is made the rest of the row leads on, whichever function is called.
  abbrev pub RestGoes : Type 0
  RestGoes =
      (i : ℕ) (p : code.Process) (n : ℕ) (f : typed.Function) (here : slice_get p.frame.code p.frame.pc ≡ Some (Call t fn into (Some a)))
      (g : typed.Function) (there : slice_get m.functions fn ≡ Some g) → (into ≡ a → ⊥) → (f_there : slice_get m.functions n ≡ Some f)
      → (in_code : slice_get (of_function m f).code p.frame.pc ≡ Some (Call t fn into (Some a))) → (told_so : IsToldSo m f p.frame.pc t fn a)
      → ((o : ℕ) → 0 < code.frame_names (callee m i p n f t fn into a here b pass g there) o → 0 < code.process_names p o) → t ≡ g.of.answer
      → Goes m i p n f t fn into a here b pass g there f_there in_code told_so

  pub row_goes : RestGoes → (k : Facts) (i : ℕ) (x : World) (p : code.Process) (q : Process) → (sides m).ready k i x p q
      → slice_get p.frame.code p.frame.pc ≡ Some (Call t fn into (Some a)) → RowGoes m k i x p q
  row_goes rest k i x p q ready here = by found
    where
      on : On m k i x [] ready.0.stands.is.number ready.0.stands.is.function 0 p q
      on = on_ready m i p q k x ready.0

      s : IsTogether m k i x [] ready.0.stands.is.number ready.0.stands.is.function 0 p q on t fn a
      s = together m i p ready.0.stands.is.number ready.0.stands.is.function t fn into a here k x [] 0 q on (λ e. e)

      found : IsCalled m fn t
      found = called_function m fn t s.work.0 s.work.1 s.work.3

      by : IsCalled m fn t → RowGoes m k i x p q
      by c =
          go ready.0.stands.is.number ready.0.stands.is.function on s c.function c.there c.answer
          (call_told m ready.0.stands.is.function p.frame.pc ready.0.stands.is.known t fn into a ready.0.stands.goes
          (row_code m k i x [] ready.0.stands.is.number ready.0.stands.is.function 0 p q on (Call t fn into (Some a)) here))
        where
          go : (n : ℕ) (f : typed.Function) (on : On m k i x [] n f 0 p q) (s : IsTogether m k i x [] n f 0 p q on t fn a) (g : typed.Function)
              → slice_get m.functions fn ≡ Some g → t ≡ g.of.answer → IsToldSo m f p.frame.pc t fn a → RowGoes m k i x p q
          go n f on s g there answer told_so =
              let in_code = row_code m k i x [] n f 0 p q on (Call t fn into (Some a)) here in
              let goes = rest i p n f here g there (slots_differ m f p.frame.pc (Call t fn into (Some a)) in_code) on.there in_code told_so
              (callee_named m i p n f t fn into a here b pass g there k x [] 0 q on s) answer in
              let within = (source m i p n f t fn into a here b pass g there k x [] 0 q on s).within in
              let way = all_way m i p n f t fn into a here b pass g there on.there in_code told_so goes within in (
                suc way.0,
                (
                  ready.1,
                  λ now y w left h worlds.
                      let on' = on_later m i p q b k now x y left h [] n f 0 on in
                      frame_step m i p fn g t there (begins.laid fn g there) answer b n f now w y q on' ready.0.none_made h worlds
                      (reaches_it m b i p q [] n f 0 now w y on' h worlds (Call t fn into (Some a)) here (framing m fn) refl)
                      (Call t fn into (Some a)) here refl (more_follow m i p n f t fn into a here b pass g there on.there in_code told_so) (suc way.0)
                      (λ r c on'' called has bare held. way.1 now (with_frame_made y) r (begun n f g there now (with_frame_made y) r c on'' called has bare) held),
                ),
              )
            where
              begun : (n : ℕ) (f : typed.Function) (g : typed.Function) (there : slice_get m.functions fn ≡ Some g) (k : Facts) (x : World) (r : Process)
                  (c : Frame) → On m k i x [] n f 1 p r → Called m k x fn g (zero_frame m i p fn g t) c → Made r c → ReferNowhere c.words
                  → Now m i p n f t fn into a here b pass g there k x 1 r 0
              begun n f g there k x r c on called has bare =
                  let s = together m i p n f t fn into a here k x [] 1 r on (λ e. e) in
                  record {
                    on = on;
                    frame = c;
                    called = called;
                    bare = bare;
                    others = c.words;
                    has = has;
                    box = s.box;
                    inner = s.inner;
                    box_is = box_of m i p n f t fn into a here k x [] 1 r on s;
                    written = nothing_written c.words linkage_bytes s.inner 0;
                  }
