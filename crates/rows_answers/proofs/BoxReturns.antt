-- Returns that give what a slot's box has.
use Rattle.std.proofs.Common.{◌≡◌, ℕ, ◌<◌, [], ◌∷◌, ◌++◌, length, Some, refl, sym, ap, ◌∙◌, subst, inl, inr}
use Rattle.std.specs.Prelude.{slice_get}
use Rattle.limbo_types.specs.Types as ty
use Rattle.limbo_types.specs.Types.{Ty}
use Rattle.limbo_typed.specs.Typed as typed
use Rattle.limbo_meaning.specs.Process.{Shared}
use Rattle.limbo_meaning.specs.Values.{Value, fitted}
use Rattle.core_code.specs.Code.{Return}
use Rattle.core_code.specs.Machine as code
use Rattle.core_code.specs.Slots as core
use Rattle.core_typing.specs.Held as held
use Rattle.core_typing.specs.Held.{type_held}
use Rattle.core_typing.specs.Needs.{StandsAs}
use Rattle.dis_isa.specs.declared.inst.Operand as isa
use Rattle.dis_meaning.specs.Process.{Process}
use Rattle.dis_memory.specs.Blocks.{World}
use Rattle.value_words.specs.Facts.{Facts}
use Rattle.value_words.proofs.Wholes.{stands_whole}
use Rattle.value_frames.specs.Frames.{Form, Nowhere, Boxed, form_of, answer_place, reference_place, box_bytes, room_for}
use Rattle.value_frames.specs.Types.{desc}
use Rattle.value_moves.specs.Operands.{Code, behind, moved}
use Rattle.value_moves.proofs.Leading.{spots_lead}
use Rattle.value_code.specs.Data.{OfRecord}
use Rattle.value_code.specs.Objects.{object_of, of_function, type_number, blank_site}
use Rattle.value_code.specs.Operands.{Scene, in_slot, by_form, in_box}
use Rattle.value_code.specs.Code.{Site, code_of}
use Rattle.value_code.proofs.Having.{objects_have}
use Rattle.value_follows.specs.Stands.{types_of, Awaited}
use Rattle.value_follows.specs.Sides.{sides, HoldTheSame}
use Rattle.value_follows.specs.Rows.{Base, RowStands, site_of}
use Rattle.value_follows.proofs.Slots.{uses}
use Rattle.value_follows.proofs.Standing.{finds, code_here}
use Rattle.rows_moving.proofs.Sources.{same_form}
use Rattle.rows_ending.proofs.Endings.{ret}
use Rattle.rows_answers.specs.Rows.{BoxReturns}
use Rattle.rows_answers.proofs.OnTheWay.{On, frame_is, on_ready}
use Rattle.rows_answers.proofs.Boxes.{lies_in}
use Rattle.rows_answers.proofs.Boxed.{box_is, inner_there, named_by_process}
use Rattle.rows_answers.proofs.Boxing.{answer}
use Rattle.rows_answers.proofs.Moving.{Source, moved_goes}

-- ---- the code

module _ (m : typed.Module) (i r : ℕ) (p : code.Process) (n : ℕ) (f : typed.Function)
    (in_code : slice_get (of_function m f).code p.frame.pc ≡ Some (Return (Some r))) (there : slice_get m.functions n ≡ Some f)
    (same : p.frame.answer ≡ f.of.answer) (form : form_of p.frame.answer ≡ Boxed) where
  -- the box of the slot
  abbrev box_at : isa.Operand
  box_at = behind (reference_place m.adts (types_of m f) r) 0

  in_it : (s : Scene) → in_slot s p.frame.answer r ≡ in_box s r 0
  in_it s = ap (λ (c : Form). by_form s c r) form

  code_so : (c : Site) → c.answer ≡ f.of.answer
      → code_of c (Return (Some r))
      ≡ moved c.scene.adts p.frame.answer (c.type_number (OfRecord p.frame.answer)) (in_box c.scene r 0) (behind answer_place 0) ++ ret ∷ []
  code_so c e =
      ap (λ (t : Ty). moved c.scene.adts t (c.type_number (OfRecord t)) (in_slot c.scene t r) (behind answer_place 0) ++ ret ∷ []) (e ∙ sym same)
      ∙ ap (λ (o : isa.Operand). moved c.scene.adts p.frame.answer (c.type_number (OfRecord p.frame.answer)) o (behind answer_place 0) ++ ret ∷ [])
      (in_it c.scene)

  types_so : slice_get (object_of m).types (type_number m (OfRecord p.frame.answer))
      ≡ Some (desc (box_bytes m.adts p.frame.answer) (room_for m.adts p.frame.answer).references)
  types_so =
      subst (λ (t : Ty). slice_get (object_of m).types (type_number m (OfRecord t)) ≡ Some (desc (box_bytes m.adts t) (room_for m.adts t).references))
      (sym same) (objects_have.types m n f p.frame.pc (Return (Some r)) (OfRecord f.of.answer) there in_code (inl refl))

-- ---- the slot

boxed_type : (u t : Ty) → form_of t ≡ Boxed → StandsAs u t → u ≡ t
boxed_type u t e (inl (inl f)) = f
boxed_type (ty.RefPick a j) t e (inl (inr f)) = absurd (let g : form_of t ≡ form_of (ty.RefAdt a) = ap form_of f in cc)
boxed_type u t e (inl (inr f)) = absurd f
boxed_type u t e (inr h) = absurd (let g : form_of t ≡ form_of u = sym (same_form u t (inr h)) in let j : form_of u ≡ form_of ty.Nil = ap form_of h.0 in cc)

module _ (m : typed.Module) (b : Base m) (i r : ℕ) (p : code.Process) (n : ℕ) (f : typed.Function) (there : slice_get m.functions n ≡ Some f)
    (here : slice_get p.frame.code p.frame.pc ≡ Some (Return (Some r)))
    (in_code : slice_get (of_function m f).code p.frame.pc ≡ Some (Return (Some r))) (row : RowStands m n f p.frame.pc (Return (Some r)))
    (few : r < length p.frame.slots) (same : p.frame.answer ≡ f.of.answer) (some : form_of p.frame.answer ≡ Nowhere → ⊥)
    (form : form_of p.frame.answer ≡ Boxed) where
  source : (j : ℕ) (k : Facts) (w : Shared) (x : World) (q : Process) → On m k i x Awaited n f j p q → HoldTheSame m k i x p q
      → (sides m).worlds k w x
      → Source m k x p q (box_at m i r p n f in_code there same form) (answer m b i p n f (Some r) there here in_code row some form)
  source j k w x q on hold worlds =
      let is = frame_is m k i x Awaited n f j p q on in
      let found = finds m f p.frame.pc on.known (Return (Some r)) on.goes in_code in
      let suits : StandsAs found.0 p.frame.answer = subst (λ t. StandsAs found.0 t) (sym same) found.2 in
      let is_type : found.0 ≡ p.frame.answer = boxed_type found.0 p.frame.answer form suits in
      let known : type_held (held.slot on.known r) ≡ Some p.frame.answer = found.1 ∙ ap (λ (t : Ty). Some t) is_type in
      let box = box_is m k i w x p q [] is hold worlds r few (λ e. e) p.frame.answer form known in
      record {
        words = box.inner;
        place = 0;
        leads = (spots_lead.inner x q (reference_place m.adts (types_of m f) r) box.block box.inner 0 box.word box.there).0;
        value = box.value;
        lies = lies_in m.adts p.frame.answer box.laid k box.inner box.value box.boxes;
        named = named_by_process p r box.value box.holds;
        live = inner_there m k i w x p q [] is hold worlds box.block box.inner box.there;
        same = ap (λ (v : Value). fitted m.adts p.frame.answer v) (ap core.value_of box.holds)
            ∙ sym (stands_whole m.adts k box.inner 0 p.frame.answer box.value box.boxes.1);
      }

pub some_form : (t : Ty) → form_of t ≡ Boxed → form_of t ≡ Nowhere → ⊥
some_form t e f = cc

pub box_returns : BoxReturns
box_returns m b r k i x p q ready form small here =
    let is = ready.0.stands.is in
    let in_code = code_here m k i x p q ready.0 (Return (Some r)) here in
    let row = b.row_stands is.number is.function p.frame.pc (Return (Some r)) is.there in_code in
    let few = uses m k i x [] p.frame q.frame is p.frame.pc (Return (Some r)) in_code in
    let some = some_form p.frame.answer form in
    let blank = blank_site m is.function.of.answer (of_function m is.function) p.frame.pc in
    moved_goes m b i p is.number is.function (Some r) is.there here in_code row some form small (type_number m (OfRecord p.frame.answer))
    (box_at m i r p is.number is.function in_code is.there is.answer form)
    (in_box blank.scene r 0)
    (code_so m i r p is.number is.function in_code is.there is.answer form (site_of m is.number is.function p.frame.pc row.at) refl)
    (ap (λ (l : Code). length l) (code_so m i r p is.number is.function in_code is.there is.answer form blank refl))
    (types_so m i r p is.number is.function in_code is.there is.answer form)
    (source m b i r p is.number is.function is.there here in_code row few is.answer some form) k x q (on_ready m i p q k x ready.0)
    ready.1
