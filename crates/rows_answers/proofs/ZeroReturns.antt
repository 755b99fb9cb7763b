-- Returns without a slot of functions whose answers have a box: the zero of the type comes into it.
use Rattle.std.proofs.Common.{◌≡◌, ℕ, pos, ◌<◌, ◌≤◌, [], ◌∷◌, ◌++◌, length, Option, Some, None, refl, sym, ap, ◌∙◌, subst, arith, inl}
use Rattle.std.specs.Prelude.{slice_get}
use Rattle.std.proofs.lemmas.Int.{ints}
use Rattle.heap_model.specs.Heap.{there, in_one}
use Rattle.limbo_types.specs.Types as ty
use Rattle.limbo_types.specs.Types.{Ty}
use Rattle.limbo_layout.specs.Adts.{Has}
use Rattle.limbo_layout.specs.Layout.{limit, Room}
use Rattle.limbo_values.specs.declared.number.Kind.TheVariants as kind
use Rattle.limbo_values.proofs.Ranges.{within}
use Rattle.limbo_typed.specs.Typed as typed
use Rattle.limbo_meaning.specs.Process.{Shared}
use Rattle.limbo_meaning.specs.Values.{Value, Num, nothing, fitted, zero_of}
use Rattle.limbo_meaning.proofs.Names.{zero_names}
use Rattle.core_code.specs.Code.{Return}
use Rattle.core_code.specs.Machine as code
use Rattle.core_code.proofs.Rounds.{rounds_give_rooms}
use Rattle.dis_isa.specs.declared.inst.Operand.TheVariants as operand
use Rattle.dis_meaning.specs.Process.{Process}
use Rattle.dis_memory.specs.Blocks.{Block, World}
use Rattle.dis_memory.specs.Naming.{inside}
use Rattle.value_words.specs.Facts.{Facts}
use Rattle.value_roots.proofs.Words.{has_counts}
use Rattle.value_frames.specs.Frames.{Nowhere, Boxed, form_of, answer_place, box_bytes, room_for}
use Rattle.value_frames.specs.Types.{desc}
use Rattle.value_moves.specs.Operands.{Code, behind, moved}
use Rattle.value_moves.specs.Writing.{Lies}
use Rattle.value_moves.proofs.Leading.{spots_lead}
use Rattle.value_code.specs.Data.{Zero, OfRecord}
use Rattle.value_code.specs.Objects.{object_of, of_function, size_at, type_number, blank_site, placed, constants, constants_from, data_at}
use Rattle.value_code.specs.Code.{Site, code_of, zeroed, zero_data}
use Rattle.value_code.proofs.Having.{objects_have}
use Rattle.value_follows.specs.Stands.{Awaited}
use Rattle.value_follows.specs.Sides.{sides, HoldTheSame}
use Rattle.value_follows.specs.Rows.{Base, RowStands, RowGoes, site_of}
use Rattle.value_follows.proofs.Standing.{code_here, instance_here}
use Rattle.rows_ending.proofs.Endings.{ret}
use Rattle.rows_answers.specs.Rows.{ZeroReturns}
use Rattle.rows_answers.proofs.OnTheWay.{On, frame_is, on_ready}
use Rattle.rows_answers.proofs.Boxing.{way_goes, answer, waiting, record_there, fills_then}
use Rattle.rows_answers.proofs.BoxReturns.{some_form}
use Rattle.rows_answers.proofs.Filling.{zero_big, zero_fills}
use Rattle.rows_answers.proofs.Moving.{Source, moved_goes}

module _ (m : typed.Module) (b : Base m) (i : ℕ) (p : code.Process) (n : ℕ) (f : typed.Function)
    (there_so : slice_get m.functions n ≡ Some f) (here : slice_get p.frame.code p.frame.pc ≡ Some (Return None))
    (in_code : slice_get (of_function m f).code p.frame.pc ≡ Some (Return None))
    (row : RowStands m n f p.frame.pc (Return None)) (same : p.frame.answer ≡ f.of.answer) (some : form_of p.frame.answer ≡ Nowhere → ⊥)
    (form : form_of p.frame.answer ≡ Boxed) where
  abbrev zero : Value
  zero = answer m b i p n f None there_so here in_code row some form

  -- ---- a big

  module _ (is_big : p.frame.answer ≡ ty.Big) where
    big_code : (c : Site) → c.answer ≡ f.of.answer → code_of c (Return None) ≡ zero_big ∷ ret ∷ []
    big_code c e =
        ap (λ (t : Ty). zeroed c.scene.adts t (c.type_number (OfRecord t)) c.at (behind answer_place 0) ++ ret ∷ []) (e ∙ sym same ∙ is_big)

    big_long : size_at m f.of.answer (of_function m f) p.frame.pc (Some (Return None)) ≡ 2
    big_long = ap (λ (l : Code). length l) (big_code (blank_site m f.of.answer (of_function m f) p.frame.pc) refl)

    big_zero : zero ≡ Num (pos 0)
    big_zero =
        ap (λ (t : Ty). fitted m.adts t nothing) is_big
        ∙ ap Num (within kind.Big (pos 0) (record { above = omega (arith, ints); below = omega (arith, ints) }))

    big_goes : (k : Facts) (x : World) (q : Process) → On m k i x Awaited n f 0 p q → HoldTheSame m k i x p q → RowGoes m k i x p q
    big_goes k x q on hold = (
      1,
      way_goes m b i p n f Awaited 0 q 1 k x on hold (λ now w y grows o h worlds.
          fills_then m b i p n f None there_so here in_code row some form 0 q now w y o h worlds zero_big
          (ap (λ (l : Code). slice_get l 0) (big_code (site_of m n f p.frame.pc row.at) refl))
          (ap (λ (l : Code). slice_get l 1) (big_code (site_of m n f p.frame.pc row.at) refl))
          (let l = big_long in omega (arith, l))
          (zero_fills m now i y p q (waiting m b i p n f None there_so here in_code row some form 0 q now w y o h worlds)
          (record_there m b i p n f None there_so here in_code row some form 0 q now w y o h worlds) zero is_big big_zero)),
    )

  -- ---- a value of parts: its zero is among the module's data

  module _ (u : Ty) (is_it : p.frame.answer ≡ u)
      (zeros : (c : Site) → zeroed c.scene.adts u (c.type_number (OfRecord u)) c.at (behind answer_place 0)
      ≡ moved c.scene.adts u (c.type_number (OfRecord u)) (operand.Mp (pos c.at)) (behind answer_place 0)) (zero_there : zero_data u ≡ Zero u ∷ []) where
    parts_code : (c : Site) → c.answer ≡ f.of.answer
        → code_of c (Return None)
        ≡ moved c.scene.adts p.frame.answer (c.type_number (OfRecord p.frame.answer)) (operand.Mp (pos c.at)) (behind answer_place 0) ++ ret ∷ []
    parts_code c e =
        ap (λ (t : Ty). zeroed c.scene.adts t (c.type_number (OfRecord t)) c.at (behind answer_place 0) ++ ret ∷ []) (e ∙ sym same ∙ is_it)
        ∙ ap (λ (l : Code). l ++ ret ∷ []) (zeros c)
        ∙ ap (λ (t : Ty). moved c.scene.adts t (c.type_number (OfRecord t)) (operand.Mp (pos c.at)) (behind answer_place 0) ++ ret ∷ []) (sym is_it)

    types_so : slice_get (object_of m).types (type_number m (OfRecord p.frame.answer))
        ≡ Some (desc (box_bytes m.adts p.frame.answer) (room_for m.adts p.frame.answer).references)
    types_so =
        subst (λ (t : Ty). slice_get (object_of m).types (type_number m (OfRecord t)) ≡ Some (desc (box_bytes m.adts t) (room_for m.adts t).references))
        (sym same) (objects_have.types m n f p.frame.pc (Return None) (OfRecord f.of.answer) there_so in_code (inl refl))

    data_so : data_at m f.of.answer (of_function m f) p.frame.pc (Return None) ≡ Zero p.frame.answer ∷ []
    data_so = ap zero_data (sym same ∙ is_it) ∙ zero_there ∙ ap (λ (t : Ty). Zero t ∷ []) (sym is_it)

    constant : Has (constants m) (placed m row.at p.frame.answer (zero_of m.adts p.frame.answer))
    constant =
        row.stand (placed m row.at p.frame.answer (zero_of m.adts p.frame.answer))
        (subst (λ l. Has (constants_from m row.at l) (placed m row.at p.frame.answer (zero_of m.adts p.frame.answer))) (sym data_so) (inl refl))

    source : (j : ℕ) (k : Facts) (w : Shared) (x : World) (q : Process) → On m k i x Awaited n f j p q → HoldTheSame m k i x p q
        → (sides m).worlds k w x → Source m k x p q (operand.Mp (pos row.at)) zero
    source j k w x q on hold worlds =
        let instance = instance_here m b k i w x p q [] (frame_is m k i x Awaited n f j p q on) hold worlds.0 in
        let it = instance.2 (placed m row.at p.frame.answer (zero_of m.adts p.frame.answer)) constant in
        let room : it.room ≡ room_for m.adts p.frame.answer = sym (rounds_give_rooms.rooms m.adts p.frame.answer it.room it.laid) in
        record {
          words = instance.0;
          place = row.at;
          leads = (spots_lead.of_module x q 0 instance.0 row.at instance.1).0;
          value = zero_of m.adts p.frame.answer;
          lies = subst (λ (r : Room). Lies m.adts k instance.0 row.at p.frame.answer r (zero_of m.adts p.frame.answer)) room
              (record { laid = it.laid; aligned = it.aligned; whole = it.whole; only = it.refer_only; stands = it.stands });
          named = λ c h. zero_names m.adts p.frame.answer c h;
          live = λ d h.
              worlds.0.closed.closed q.frame.instance d (ap there instance.1)
              (subst (λ (o : Option Block). 0 < in_one inside o d) (sym instance.1) (has_counts instance.0 d h));
          same = refl;
        }

    parts_go : (room_for m.adts p.frame.answer).size ≤ limit → (k : Facts) (x : World) (q : Process) → On m k i x Awaited n f 0 p q
        → HoldTheSame m k i x p q → RowGoes m k i x p q
    parts_go small =
        let blank = blank_site m f.of.answer (of_function m f) p.frame.pc in
        moved_goes m b i p n f None there_so here in_code row some form small (type_number m (OfRecord p.frame.answer)) (operand.Mp (pos row.at))
        (operand.Mp (pos 0))
        (parts_code (site_of m n f p.frame.pc row.at) refl)
        (ap (λ (l : Code). length l) (parts_code blank refl)) types_so source

  pub zero_goes : (u : Ty) → p.frame.answer ≡ u → form_of u ≡ Boxed → (room_for m.adts p.frame.answer).size ≤ limit → (k : Facts) (x : World) (q : Process)
      → On m k i x Awaited n f 0 p q → HoldTheSame m k i x p q → RowGoes m k i x p q
  zero_goes ty.Big e g small = big_goes e
  zero_goes (ty.Tuple ts) e g small = parts_go (ty.Tuple ts) e (λ c. refl) refl small
  zero_goes (ty.Adt a) e g small = parts_go (ty.Adt a) e (λ c. refl) refl small
  zero_goes u e g small = absurd cc

pub zero_returns : ZeroReturns
zero_returns m b k i x p q ready form small here =
    let is = ready.0.stands.is in
    let in_code = code_here m k i x p q ready.0 (Return None) here in
    let row = b.row_stands is.number is.function p.frame.pc (Return None) is.there in_code in
    let some = some_form p.frame.answer form in
    zero_goes m b i p is.number is.function is.there here in_code row is.answer some form p.frame.answer refl form small k x q
    (on_ready m i p q k x ready.0) ready.1
