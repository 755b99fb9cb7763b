-- A reference that stands in its slot goes: the slot refers to nothing then.
use Rattle.std.proofs.Common.{◌≡◌, ℕ, zero, suc, ◌<◌, List, [], ◌∷◌, length, Some, None, refl, sym, ap, ◌∙◌, subst, arith}
use Rattle.std.specs.Prelude.{slice_get}
use Rattle.limbo_types.specs.Types as ty
use Rattle.limbo_types.specs.Types.{Ty}
use Rattle.limbo_layout.specs.Adts.{Def}
use Rattle.limbo_typed.specs.Typed as typed
use Rattle.limbo_meaning.specs.Process.{Shared}
use Rattle.limbo_meaning.specs.Values.{Value, zero_of}
use Rattle.system_model.specs.Limits.{frames_limit}
use Rattle.core_code.specs.Code.{Instr, Drop}
use Rattle.core_code.specs.Machine as code
use Rattle.core_code.specs.Slots as core
use Rattle.core_code.specs.Slots.{Holds}
use Rattle.core_code.specs.Terms.{count_of}
use Rattle.core_typing.specs.Held as held
use Rattle.core_typing.specs.Held.{Of, type_held}
use Rattle.core_typing.specs.Going.{Agrees}
use Rattle.dis_isa.specs.declared.inst.Middle.TheVariants as middle
use Rattle.dis_isa.specs.declared.op.Op.TheVariants as op
use Rattle.dis_meaning.specs.Words.{Word, Refer}
use Rattle.dis_meaning.specs.Process.{Process}
use Rattle.dis_memory.specs.Blocks.{World}
use Rattle.value_words.specs.Facts.{Facts}
use Rattle.value_words.specs.Stands.{Stands, a_number, a_text, a_name, an_array, no_words, a_tuple, an_adt}
use Rattle.limbo_values.specs.declared.number.Kind.TheVariants as kind
use Rattle.value_frames.specs.Frames.{Form, AsReference, form_of, number_place, reference_place}
use Rattle.value_frames.specs.Standing.{SlotStands, a_value, ValueStands}
use Rattle.value_frames.specs.Rest.{SlotReads}
use Rattle.value_frames.proofs.Rest.{slots_rest}
use Rattle.value_moves.specs.Operands.{Code, inst, own}
use Rattle.value_moves.specs.Spots.{Leads}
use Rattle.value_moves.proofs.Leading.{spots_lead}
use Rattle.value_code.specs.Data.{nil_word}
use Rattle.value_code.specs.Objects.{object_of, of_function, blank_site, or_nothing}
use Rattle.value_code.specs.Code.{Site, code_of, let_go, let_one_go}
use Rattle.number_effects.specs.Giving.{with_word}
use Rattle.number_effects.proofs.Records.{words_move}
use Rattle.number_effects.proofs.Stepping.{steps_obey}
use Rattle.value_follows.specs.Stands.{scope, types_of, GoesOn, Ready}
use Rattle.value_follows.specs.Sides.{sides, HoldTheSame, program}
use Rattle.value_follows.specs.Rows.{Base, RowGoes, site_of}
use Rattle.value_follows.proofs.Standing.{finds, code_here, same_some, at_slots, at_words}
use Rattle.value_follows.proofs.Slots.{uses, slot_is, of_type}
use Rattle.value_follows.proofs.Single.{Once, both_go}
use Rattle.value_follows.proofs.Jumps.{row, first, next_place, behind_it}
use Rattle.value_follows.proofs.References.{nil_read, ready_referring}
use Rattle.rows_moving.proofs.References.{one_word, zero_stands, zero_names}
use Rattle.rows_dropping.proofs.Still.{once}

-- A reference of a slot's value goes, where the value stands so.
abbrev pub DropGoes : (m : typed.Module) → Form → (slot number : ℕ) → Type 0
DropGoes m form r n =
    (k : Facts) (i : ℕ) (x : World) (p : code.Process) (q : Process) (ready : (sides m).ready k i x p q) (t : Ty)
    → type_held (held.slot ready.0.stands.is.known r) ≡ Some t → form_of t ≡ form
    → slice_get p.frame.code p.frame.pc ≡ Some (Drop r n) → RowGoes m k i x p q

-- ---- what the code tells of the slot

-- where code goes on, the instruction there agrees with what is told
pub agrees : (m : typed.Module) (f : typed.Function) (pc : ℕ) (known : held.Slots) (instr : Instr) → GoesOn m f pc known
    → slice_get (of_function m f).code pc ≡ Some instr → Agrees (scope m f) f.of.answer (of_function m f).code pc known instr
agrees m f pc known instr goes here =
    let g = goes 1 in
    subst (λ i. Agrees (scope m f) f.of.answer (of_function m f).code pc known i) (same_some g.0 instr (sym g.1 ∙ here)) g.3

-- ---- a value of one reference without it is the zero of its type

one_less : (defs : List Def) (k : Facts) (words : List Word) (at : ℕ) (t : Ty) (v : Value) (n : ℕ) → form_of t ≡ AsReference → n < count_of defs t
    → Stands defs k words at t v → core.without n v ≡ zero_of defs t
one_less defs k words _ _ _ n e l (a_number at kind.Byte z f i) = absurd cc
one_less defs k words _ _ _ n e l (a_number at kind.Int z f i) = absurd cc
one_less defs k words _ _ _ n e l (a_number at kind.Big z f i) = absurd cc
one_less defs k words _ _ _ n e l (a_text at r s f i) = absurd (omega (arith, l))
one_less defs k words _ _ _ zero e l (a_name at ty.Nil r n i f h) = refl
one_less defs k words _ _ _ zero e l (a_name at (ty.ListOf t) r n i f h) = refl
one_less defs k words _ _ _ zero e l (a_name at (ty.ChanOf t) r n i f h) = refl
one_less defs k words _ _ _ zero e l (a_name at (ty.RefAdt a) r n i f h) = refl
one_less defs k words _ _ _ zero e l (a_name at (ty.RefPick a j) r n i f h) = refl
one_less defs k words _ _ _ zero e l (a_name at (ty.Module a) r n i f h) = refl
one_less defs k words _ _ _ (suc m) e l (a_name at ty.Nil r n i f h) = absurd (omega (arith, l))
one_less defs k words _ _ _ (suc m) e l (a_name at (ty.ListOf t) r n i f h) = absurd (omega (arith, l))
one_less defs k words _ _ _ (suc m) e l (a_name at (ty.ChanOf t) r n i f h) = absurd (omega (arith, l))
one_less defs k words _ _ _ (suc m) e l (a_name at (ty.RefAdt a) r n i f h) = absurd (omega (arith, l))
one_less defs k words _ _ _ (suc m) e l (a_name at (ty.RefPick a j) r n i f h) = absurd (omega (arith, l))
one_less defs k words _ _ _ (suc m) e l (a_name at (ty.Module a) r n i f h) = absurd (omega (arith, l))
one_less defs k words _ _ _ m e l (a_name at t r n i f h) = absurd i
one_less defs k words _ _ _ zero e l (an_array at t r p f i) = refl
one_less defs k words _ _ _ (suc m) e l (an_array at t r p f i) = absurd (omega (arith, l))
one_less defs k words _ _ _ n e l (no_words at) = absurd cc
one_less defs k words _ _ _ n e l (a_tuple at ts rs vs y all) = absurd cc
one_less defs k words _ _ _ n e l (an_adt at a d rs vs f y all) = absurd cc

-- ---- the row

drop_code : (c : Site) (r n : ℕ) (t : Ty) → c.told r ≡ t → form_of t ≡ AsReference → code_of c (Drop r n) ≡ let_go c.scene r ∷ []
drop_code c r n t told e = ap (λ f. let_one_go c f (c.told r) r n) (ap form_of told ∙ e)

module _ (m : typed.Module) (b : Base m) (r n : ℕ) (k : Facts) (i : ℕ) (w : Shared) (x : World) (p : code.Process) (q : Process)
    (ready : Ready m k i x p q) (hold : HoldTheSame m k i x p q) (worlds : (sides m).worlds k w x) (t : Ty)
    (known : type_held (held.slot ready.stands.is.known r) ≡ Some t) (form : form_of t ≡ AsReference)
    (here : slice_get p.frame.code p.frame.pc ≡ Some (Drop r n)) where
  abbrev instr : Instr
  instr = Drop r n

  abbrev types : List Ty
  types = types_of m ready.stands.is.function

  abbrev n_at : ℕ
  n_at = number_place m.adts types r

  abbrev r_at : ℕ
  r_at = reference_place m.adts types r

  in_code : slice_get (of_function m ready.stands.is.function).code p.frame.pc ≡ Some instr
  in_code = code_here m k i x p q ready instr here

  below : r < length p.frame.slots
  below = uses m k i x [] p.frame q.frame ready.stands.is p.frame.pc instr in_code

  goes_away : Once m b i p q k w x
  goes_away =
      let is = ready.stands.is in
      let h = of_type (held.slot is.known r) t known in
      let own_blocks = is.words.own r in
      let stands = subst (λ h. SlotStands m.adts k x.heap q.frame.serial q.frame.words n_at r_at h (core.slot p.frame.slots r) own_blocks) h.1
      (slot_is m k i x [] p.frame q.frame is r below (λ e. e)) in
      let v = slots_rest.is_value m.adts k x.heap q.frame.serial q.frame.words n_at r_at t h.0 (core.slot p.frame.slots r) own_blocks stands in
      let reads : SlotReads m.adts k q.frame.words n_at r_at t h.0 v.0 own_blocks =
      slots_rest.reads m.adts k x.heap q.frame.serial q.frame.words n_at r_at t h.0 v.0 own_blocks
      (subst (λ o. SlotStands m.adts k x.heap q.frame.serial q.frame.words n_at r_at (Of t h.0) o own_blocks) v.1 stands) in
      let found = finds m is.function p.frame.pc is.known instr ready.stands.goes in_code in
      let same : found.0 ≡ t = same_some found.0 t (sym found.1 ∙ known) in
      let told = agrees m is.function p.frame.pc is.known instr ready.stands.goes in_code in
      let told_so = same_some told.0 t (sym told.1 ∙ known) in
      let old = one_word m.adts k q.frame.words r_at t v.0 form (reads.reference form) in
      let less = one_less m.adts k q.frame.words r_at t v.0 n form (subst (λ u. n < count_of m.adts u) same found.2) (reads.reference form) in
      let move = inst op.Movp nil_word middle.None (own r_at) in
      let lead : Leads x q (own r_at) q.frame.words r_at = (spots_lead.own x q r_at).0 in
      let stored = words_move.reference frames_limit (object_of m) x q move None q.frame.words r_at lead old.refers refl
      (nil_read m b k i w x p q ready hold worlds instr here) old.word in
      let others = with_word q.frame.words r_at (Refer None) in
      let next = next_place m b k i w x p q ready hold worlds instr here 1
      (ap (λ (l : Code). length l)
      (drop_code (blank_site m is.function.of.answer (of_function m is.function) p.frame.pc) r n t
      (ap or_nothing told.2 ∙ told_so) form)) in
      let live = held.without n h.0 in
      both_go m b i p q k w x hold worlds (at_slots m k i x p q ready (suc p.frame.pc) (core.put p.frame.slots r (Holds (zero_of m.adts t))))
      (at_words m k i x p q ready (suc q.frame.pc) others)
      (steps_obey.stores frames_limit (object_of m ∷ []) x q (object_of m) move x lead.place others _
      (first m b k i w x p q ready hold worlds instr here move
      (ap (λ (l : Code). slice_get l 0)
      (drop_code (site_of m is.number is.function p.frame.pc (row m b k i w x p q ready hold worlds instr here).at) r n t
      (ap or_nothing told.2 ∙ told_so) form))) stored.1 ((spots_lead.own x q r_at).1 others))
      (ap (code.next frames_limit (program m) w p) here
      ∙ ap (λ (l : core.Slot). code.goes_on w p (core.put p.frame.slots r l)) (ap (core.dropped n) v.1 ∙ ap Holds less))
      (ready_referring m k i x p q ready r below others stored.0.changes (stored.0.ranged (λ z e. absurd cc) is.words.kind.ranged)
      t live (zero_of m.adts t)
      (a_value others n_at r_at t live (zero_of m.adts t)
      (subst (λ f. ValueStands m.adts k others n_at r_at f t (zero_of m.adts t)) (sym form)
      (zero_stands m.adts k others r_at t form stored.0.there))
      (λ a o e. absurd (zero_names m.adts t form a o e)))
      (suc q.frame.pc) (omega (arith, next))
      (subst (λ h. GoesOn m is.function (suc p.frame.pc) (held.put is.known r h)) (ap (held.dropped n) h.1)
      (behind_it m b k i w x p q ready hold worlds instr here 0 (suc p.frame.pc)
      (held.put is.known r (held.dropped n (held.slot is.known r))) (omega arith) refl)))

pub references_drop : (m : typed.Module) → Base m → (r n : ℕ) → DropGoes m AsReference r n
references_drop m b r n k i x p q ready t known form here =
    once m b i p q k x ready.0 ready.1 (λ now w y s same hold worlds.
    goes_away m b r n now i w y p q s hold worlds t (ap (λ h. type_held (held.slot h r)) same.known ∙ known) form here)
