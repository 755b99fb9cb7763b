-- The way of a row of an operand, from where the record is there.
use Rattle.std.proofs.Common.{◌≡◌, ◌⊎◌, ℕ, suc, pos, ◌+◌, ◌<◌, ◌≤◌, List, [], ◌∷◌, ◌++◌, length, Option, Some, refl, sym, ap, ◌∙◌}
use Rattle.std.proofs.Common.{arith, inl, inr}
use Rattle.std.specs.Prelude.{slice_get}
use Rattle.process_model.specs.Process.{Went}
use Rattle.limbo_types.specs.Types as ty
use Rattle.limbo_types.specs.Types.{Ty}
use Rattle.limbo_layout.specs.Layout.{limit}
use Rattle.limbo_typed.specs.Typed as typed
use Rattle.limbo_meaning.specs.Process.{Shared}
use Rattle.limbo_meaning.specs.Values.{Value}
use Rattle.system_model.specs.Limits.{frames_limit}
use Rattle.core_code.specs.Machine as code
use Rattle.core_typing.specs.Held as held
use Rattle.dis_isa.specs.declared.inst.Inst.{Inst}
use Rattle.dis_isa.specs.declared.inst.Operand as isa
use Rattle.dis_meaning.specs.Words.{Word, Plain, ◌>>=◌, number_in}
use Rattle.dis_meaning.specs.Process.{Process}
use Rattle.dis_memory.specs.Blocks.{World}
use Rattle.value_words.specs.Facts.{Facts}
use Rattle.value_frames.specs.Frames.{Form, Nowhere, AsNumber, AsReference, Boxed, form_of, room_for, within, passing_place}
use Rattle.value_moves.specs.Operands.{Code, moved}
use Rattle.value_moves.proofs.Leading.{spots_lead}
use Rattle.value_code.specs.Data.{OfRecord}
use Rattle.value_code.specs.Operands.{Scene, in_slot, in_box}
use Rattle.value_code.specs.Code.{Site, code_of, let_go, emptied}
use Rattle.value_code.specs.Objects.{object_of, of_function, blank_site}
use Rattle.number_effects.specs.Giving.{with_word}
use Rattle.number_effects.proofs.Reading.{operands_are_read}
use Rattle.number_effects.proofs.Records.{words_move}
use Rattle.number_effects.proofs.Stepping.{steps_obey}
use Rattle.value_follows.specs.Stands.{types_of}
use Rattle.value_follows.specs.Sides.{sides, HoldTheSame}
use Rattle.value_follows.specs.Rows.{Base, RowStands}
use Rattle.value_follows.proofs.Several.{Next, moved_to}
use Rattle.value_follows.proofs.Single.{nothing_changes}
use Rattle.rows_forming.proofs.Builds.{builds_hold, builds_way}
use Rattle.rows_forming.proofs.Moving.{Moving, at_once, behind_size, moving, DoesMove, HasSize, size_inst}
use Rattle.rows_forming.proofs.Placing.{instr, part_ty, Task, first_value, reaches_on, steps_silently, further}
use Rattle.rows_forming.proofs.Putting.{builds_passed}
use Rattle.rows_forming.proofs.Rowing as rowing
use Rattle.rows_forming.proofs.Rowing.{Now, the_site, the_size, o, known_from, so_then, fit, last_move, first_move, empties, builds_then}
use Rattle.rows_forming.proofs.Sizing.{passing_word, small_range}

module _ (m : typed.Module) (t : Ty) (variant : Option ℕ) (j part into from : ℕ) (b : Base m) (i : ℕ) (p : code.Process)
    (here : slice_get p.frame.code p.frame.pc ≡ Some (instr m t variant j part into from)) (number : ℕ) (f : typed.Function)
    (there_is : slice_get m.functions number ≡ Some f)
    (in_code : slice_get (of_function m f).code p.frame.pc ≡ Some (instr m t variant j part into from))
    (row : RowStands m number f p.frame.pc (instr m t variant j part into from)) (known : held.Slots)
    (task : Task m t variant j part into from known p) where
  abbrev pub w_ty : Ty
  w_ty = part_ty m t variant j part into from

  abbrev pub old_value : Value
  old_value = first_value m t variant j part into from b i p here number f there_is in_code row known task

  abbrev pub AtNow : (far box : ℕ) (inner : List Word) (q : Process) (k : Facts) (x : World) → Type 0
  AtNow far box inner q k x = Now m t variant j part into from b i p here number f there_is in_code row known task far box inner old_value q k x

  abbrev pub site_now : Site
  site_now = the_site m t variant j part into from b i p here number f there_is in_code row known task

  abbrev pub size_now : ℕ
  size_now = the_size m t variant j part into from b i p here number f there_is in_code row known task

  abbrev pub code_now : Code
  code_now = code_of site_now (instr m t variant j part into from)

  -- the code that moves an operand, and lets its slot go
  abbrev pub tail_of : Site → Code
  tail_of c =
      moved c.scene.adts w_ty (c.type_number (OfRecord w_ty)) (in_slot c.scene w_ty from) (in_box c.scene into (within c.scene.adts t (part ∷ [])))
      ++ emptied c.scene (form_of w_ty) from

  abbrev moving_inst : (ℕ → isa.Operand → isa.Operand → Inst) → Site → Inst
  moving_inst move c =
      move (c.type_number (OfRecord w_ty)) (in_slot c.scene w_ty from) (in_box c.scene into (within c.scene.adts t (part ∷ [])))

  emptied_long : (s r : Scene) (g : Form) → length (emptied s g from) ≡ length (emptied r g from)
  emptied_long s r AsReference = refl
  emptied_long s r Boxed = refl
  emptied_long s r AsNumber = refl
  emptied_long s r Nowhere = refl

  -- Wherever the process is so far in the row, the next instructions lead to its end.
  abbrev pub GoesFrom : (far n : ℕ) → (Process → Type 0) → Type 0
  GoesFrom far n where_so =
      (box : ℕ) (inner : List Word) (q : Process) (k : Facts) (w : Shared) (x : World) → AtNow far box inner q k x → HoldTheSame m k i x p q
      → (sides m).worlds k w x → where_so q → Next m b i p n k w x q

  two_goes : (form : (form_of w_ty ≡ AsReference) ⊎ (form_of w_ty ≡ Boxed)) → (some : form_of w_ty ≡ Nowhere → ⊥) → (far : ℕ)
      (where_so : Process → Type 0) (move : ℕ → isa.Operand → isa.Operand → Inst) → DoesMove m.adts w_ty where_so move
      → slice_get code_now far ≡ Some (moving_inst move site_now) → slice_get code_now (suc far) ≡ Some (let_go site_now.scene from)
      → size_now ≡ suc (suc far) → GoesFrom far 1 where_so
  two_goes form some far where_so move moves at next long box inner q k w x s hold worlds so =
      let d = rowing.moved m t variant j part into from b i p here number f there_is in_code row known task far box inner q k w x s hold worlds where_so
      so move moves some in
      let operand = o m t variant j part into from b i p here number f there_is in_code row known task far box inner q k w x s hold worlds in
      let fit_now = fit m t variant j part into from b i p here number f there_is in_code row known task far box inner q k w x s hold worlds where_so
      so move moves some in
      let then = so_then m t variant j part into from b i p here number f there_is in_code row known task far box inner q k w x s hold worlds fit_now in
      let from_is = known_from m t variant j part into from b i p here number f there_is in_code row known task far box inner q k w x s hold worlds in
      first_move m t variant j part into from b i p here number f there_is in_code row known task far box inner q k w x s hold worlds where_so so move
      moves some d at (omega (arith, long))
      (λ now v y s' hold' worlds'.
      empties m t variant j part into from b i p here number f there_is in_code row known task operand.value operand.live (suc far) box d.others
      (moved_to q (suc q.frame.pc) q.frame.words) now v y s' hold' worlds' then operand.holds from_is form next long)

  -- behind the size, if it is put there
  ends_so : (g : Form) → form_of w_ty ≡ g → (g ≡ Nowhere → ⊥) → (far : ℕ) (where_so : Process → Type 0)
      (move : ℕ → isa.Operand → isa.Operand → Inst) → DoesMove m.adts w_ty where_so move
      → slice_get code_now far ≡ Some (moving_inst move site_now) → slice_get code_now (suc far) ≡ slice_get (emptied site_now.scene g from) 0
      → size_now ≡ suc far + length (emptied site_now.scene g from) → (n : ℕ) × GoesFrom far n where_so
  ends_so Nowhere form some far where_so move moves at next long = absurd (some refl)
  ends_so AsNumber form some far where_so move moves at next long = (
    0,
    λ box inner q k w x s hold worlds so.
        last_move m t variant j part into from b i p here number f there_is in_code row known task far box inner q k w x s hold worlds where_so so move
        moves (λ e. let z : AsNumber ≡ Nowhere = sym form ∙ e in cc)
        (rowing.moved m t variant j part into from b i p here number f there_is in_code row known task far box inner q k w x s hold worlds where_so so
        move moves (λ e. let z : AsNumber ≡ Nowhere = sym form ∙ e in cc))
        at form (omega (arith, long)),
  )
  ends_so AsReference form some far where_so move moves at next long =
      (1, two_goes (inl form) (λ e. let z : AsReference ≡ Nowhere = sym form ∙ e in cc) far where_so move moves at next (omega (arith, long)))
  ends_so Boxed form some far where_so move moves at next long =
      (1, two_goes (inr form) (λ e. let z : Boxed ≡ Nowhere = sym form ∙ e in cc) far where_so move moves at next (omega (arith, long)))

  -- the size comes into the frame first
  size_goes : (far n : ℕ) → (room_for m.adts w_ty).size ≤ limit → slice_get code_now far ≡ Some (size_inst m.adts w_ty) → suc far < size_now
      → GoesFrom (suc far) n (HasSize m.adts w_ty) → GoesFrom far (suc n) (λ q. Unit {0})
  size_goes far n small at l goes box inner q k w x s hold worlds so =
      let bytes = (room_for m.adts w_ty).size in
      let it = size_inst m.adts w_ty in
      let leads = (spots_lead.own x q passing_place).0 in
      let old = passing_word m.adts (types_of m s.stands.is.function) (length p.frame.slots) q.frame.words s.stands.is.words.kind in
      let stored = words_move.word frames_limit (object_of m) x q it (Plain (pos bytes)) q.frame.words passing_place leads old.0 refl
      (operands_are_read.source_plain_given x q (pos bytes)) old.1 in
      let words = with_word q.frame.words passing_place (Plain (pos bytes)) in
      let r = moved_to q (suc q.frame.pc) words in
      let steps : (sides m).code.step x q ≡ Went x r =
      steps_obey.stores frames_limit (object_of m ∷ []) x q (object_of m) it x leads.place words _
      (reaches_on m t variant j part into from b i p here number f there_is in_code row known task far box inner old_value q k w x s hold worlds it at)
      stored.1 ((spots_lead.own x q passing_place).1 words) in
      let then = builds_passed m b number f t into far box inner old_value known i p q k w x s worlds words stored.0.changes
      (stored.0.ranged (λ z g. small_range bytes z small g) s.stands.is.words.kind.ranged) in
      let live = b.there_again x x q r steps worlds.0.closed (λ c h. hold.same.live c (hold.same.roots c h)) in
      steps_silently m b i p (suc n) k k w x x q r steps (nothing_changes m k i x) worlds
      (further m b i p number f (instr m t variant j part into from) there_is in_code refl far q r l s.pc then.pc)
      (builds_way m number f t into b n (suc far) box inner old_value known i p r k x then
      (builds_hold m number f t into b (suc far) box inner old_value known i p r k x then w worlds live)
      (λ now v y s' hold' worlds'. goes box inner r now v y s' hold' worlds' (ap (λ a. a >>= number_in) stored.0.there)))

  -- ---- all of it

  pub way_from : (w_ty ≡ ty.Nothing → ⊥) → (form_of w_ty ≡ Nowhere → ⊥) → (room_for m.adts w_ty).size ≤ limit → (far : ℕ)
      → slice_get code_now far ≡ slice_get (tail_of site_now) 0 → slice_get code_now (suc far) ≡ slice_get (tail_of site_now) 1
      → slice_get code_now (suc (suc far)) ≡ slice_get (tail_of site_now) 2
      → size_now ≡ far + length (tail_of (blank_site m f.of.answer (of_function m f) p.frame.pc))
      → (n : ℕ) × GoesFrom far n (λ q. Unit {0})
  way_from some form small far zeroth first second long = go (moving m.adts w_ty some)
    where
      go : Moving m.adts w_ty → (n : ℕ) × GoesFrom far n (λ q. Unit {0})
      go (at_once move e does) =
          let c = site_now in
          let d = blank_site m f.of.answer (of_function m f) p.frame.pc in
          let real : tail_of c ≡ moving_inst move c ∷ emptied c.scene (form_of w_ty) from =
          ap (λ (l : Code). l ++ emptied c.scene (form_of w_ty) from)
          (e (c.type_number (OfRecord w_ty)) (in_slot c.scene w_ty from) (in_box c.scene into (within c.scene.adts t (part ∷ [])))) in
          let blank : tail_of d ≡ moving_inst move d ∷ emptied d.scene (form_of w_ty) from =
          ap (λ (l : Code). l ++ emptied d.scene (form_of w_ty) from)
          (e (d.type_number (OfRecord w_ty)) (in_slot d.scene w_ty from) (in_box d.scene into (within d.scene.adts t (part ∷ [])))) in
          let many = ap (λ (l : Code). length l) blank in
          let same = emptied_long d.scene c.scene (form_of w_ty) in
          ends_so (form_of w_ty) refl form far (λ q. Unit {0}) move does (zeroth ∙ ap (λ (l : Code). slice_get l 0) real)
          (first ∙ ap (λ (l : Code). slice_get l 1) real) (omega (arith, long, many, same))
      go (behind_size move e does) =
          let c = site_now in
          let d = blank_site m f.of.answer (of_function m f) p.frame.pc in
          let real : tail_of c ≡ size_inst m.adts w_ty ∷ moving_inst move c ∷ emptied c.scene (form_of w_ty) from =
          ap (λ (l : Code). l ++ emptied c.scene (form_of w_ty) from)
          (e (c.type_number (OfRecord w_ty)) (in_slot c.scene w_ty from) (in_box c.scene into (within c.scene.adts t (part ∷ [])))) in
          let blank : tail_of d ≡ size_inst m.adts w_ty ∷ moving_inst move d ∷ emptied d.scene (form_of w_ty) from =
          ap (λ (l : Code). l ++ emptied d.scene (form_of w_ty) from)
          (e (d.type_number (OfRecord w_ty)) (in_slot d.scene w_ty from) (in_box d.scene into (within d.scene.adts t (part ∷ [])))) in
          let many = ap (λ (l : Code). length l) blank in
          let same = emptied_long d.scene c.scene (form_of w_ty) in
          let behind = ends_so (form_of w_ty) refl form (suc far) (HasSize m.adts w_ty) move does (first ∙ ap (λ (l : Code). slice_get l 1) real)
          (second ∙ ap (λ (l : Code). slice_get l 2) real) (omega (arith, long, many, same)) in (
            suc behind.0,
            size_goes far behind.0 small (zeroth ∙ ap (λ (l : Code). slice_get l 0) real) (omega (arith, long, many)) behind.1,
          )
