-- Bytes and ints that are asked for as what they are: one instruction moves them.
use Rattle.std.proofs.Common.{◌≡◌, ℕ, ℤ, suc, List, [], ◌∷◌, Some, refl, ap, ◌∙◌, subst, arith}
use Rattle.std.specs.Prelude.{slice_get}
use Rattle.limbo_types.specs.Types.{Ty}
use Rattle.limbo_values.specs.declared.number.Kind.{Kind}
use Rattle.limbo_values.specs.declared.number.Kind.TheVariants.{Byte, Int, Big}
use Rattle.limbo_values.specs.Numbers.{InRange, wrapped}
use Rattle.limbo_values.proofs.Ranges.{within}
use Rattle.limbo_typed.specs.Typed as typed
use Rattle.limbo_typed.specs.Fitting.{of_kind}
use Rattle.limbo_typed.specs.declared.operation.Operation.TheVariants.{Convert}
use Rattle.limbo_meaning.specs.Trees.{Operate}
use Rattle.limbo_meaning.specs.Values.{Value, Num, number_of, fitted}
use Rattle.system_model.specs.Limits.{frames_limit}
use Rattle.core_code.specs.Code.{Instr, Give}
use Rattle.core_code.specs.Machine as code
use Rattle.core_code.specs.Slots as core
use Rattle.core_code.specs.Slots.{Slot, Holds}
use Rattle.core_typing.specs.Going.{got_by}
use Rattle.core_typing.specs.Needs.{AreThese}
use Rattle.dis_isa.specs.declared.inst.Middle.TheVariants as middle
use Rattle.dis_isa.specs.declared.op.Op.TheVariants as op
use Rattle.limbo_meaning.specs.Process.{Shared}
use Rattle.value_frames.specs.Frames.{number_place}
use Rattle.value_moves.specs.Operands.{inst, own}
use Rattle.value_moves.proofs.Leading.{spots_lead}
use Rattle.value_code.specs.Objects.{object_of}
use Rattle.number_effects.proofs.Reading.{operands_are_read}
use Rattle.number_effects.proofs.Numbers.{numbers_work}
use Rattle.value_follows.specs.Stands.{types_of}
use Rattle.value_follows.specs.Sides.{sides, program}
use Rattle.value_follows.specs.Rows.{Base, InstrGoes}
use Rattle.value_follows.proofs.Standing.{finds, code_here}
use Rattle.value_follows.proofs.Slots.{uses, number_is}
use Rattle.value_follows.proofs.Single.{single}
use Rattle.value_follows.proofs.Jumps.{behind_it}
use Rattle.value_follows.proofs.Putting.{old_word}
use Rattle.value_follows.proofs.Comparing.{one_slot}
use Rattle.value_follows.proofs.Numbers.{leads, int_moved, number_stored}
use Rattle.rows_making.specs.Rows.{SameConvertsGo}

abbrev converts : Kind → (into a : ℕ) → Instr
converts j into a = Give (of_kind j) (Operate (Convert j j)) into (a ∷ [])

-- the other gives the number of the slot
does_same : (m : typed.Module) (j : Kind) (into a : ℕ) (w : Shared) (p : code.Process)
    → slice_get p.frame.code p.frame.pc ≡ Some (converts j into a)
    → ((z : ℤ) → InRange j z → fitted m.adts (of_kind j) (Num z) ≡ Num z)
    → (y : ℤ) → InRange j y → core.slot p.frame.slots a ≡ Holds (Num y)
    → (sides m).program.step w p ≡ code.goes_on w p (core.put p.frame.slots into (Holds (Num y)))
does_same m j into a w p here fits y range e =
    ap (code.next frames_limit (program m) w p) here
    ∙ ap (λ (s : Slot). code.goes_on w p (core.put p.frame.slots into
    (Holds (fitted m.adts (of_kind j) (Num (wrapped j (number_of (core.value_of s)))))))) e
    ∙ ap (λ (z : ℤ). code.goes_on w p (core.put p.frame.slots into (Holds (fitted m.adts (of_kind j) (Num z))))) (within j y range)
    ∙ ap (λ (v : Value). code.goes_on w p (core.put p.frame.slots into (Holds v))) (fits y range)

module _ (m : typed.Module) (b : Base m) (into a : ℕ) where
  bytes_go : InstrGoes m (converts Byte into a)
  bytes_go k i x p q ready here =
      single m b i p q k x ready (λ now w v r hold worlds.
      let is = r.stands.is in
      let it = converts Byte into a in
      let row = code_here m now i v p q r it here in
      let found = finds m is.function p.frame.pc is.known it r.stands.goes row in
      let these = subst (AreThese is.known (a ∷ [])) found.2.0.0 found.1 in
      let named = uses m now i v [] p.frame q.frame is p.frame.pc it row in
      let y = number_is m now i v [] p.frame q.frame is Byte a refl named.1.0 (λ e. e) these.0 in
      let from = number_place m.adts (types_of m is.function) a in
      let to = number_place m.adts (types_of m is.function) into in
      let move = inst op.Movb (own from) middle.None (own to) in
      let old = (old_word m now i v p q r into named.0 found.3).number Byte refl in
      number_stored m b now i w v p q r hold worlds it here into named.0 found.3 refl move refl Byte refl y.number y.range
      (got_by m.adts (of_kind Byte) (Operate (Convert Byte Byte)))
      (behind_it m b now i w v p q r hold worlds it here 0 (suc p.frame.pc) _ (omega arith) refl)
      (does_same m Byte into a w p here (λ z g. ap (λ (c : ℤ). Num c) (within Byte z g)) y.number y.range y.holds)
      (numbers_work.moves frames_limit (object_of m) v q move Byte y.number q.frame.words to
      (leads m b now i w v p q r hold worlds it here into named.0 found.3) old.0 refl
      (operands_are_read.source_number v q (own from) q.frame.words from Byte (spots_lead.own v q from).0 ∙ y.found) old.1)
      (omega arith))

  ints_go : InstrGoes m (converts Int into a)
  ints_go k i x p q ready here =
      single m b i p q k x ready (λ now w v r hold worlds.
      let is = r.stands.is in
      let it = converts Int into a in
      let row = code_here m now i v p q r it here in
      let found = finds m is.function p.frame.pc is.known it r.stands.goes row in
      let these = subst (AreThese is.known (a ∷ [])) found.2.0.0 found.1 in
      let named = uses m now i v [] p.frame q.frame is p.frame.pc it row in
      let y = number_is m now i v [] p.frame q.frame is Int a refl named.1.0 (λ e. e) these.0 in
      let from = number_place m.adts (types_of m is.function) a in
      let plainly = operands_are_read.int_is_plain q.frame.words from y.number y.found in
      int_moved m b now i w v p q r hold worlds it here into named.0 found.3 refl (own from) refl y.number
      (record {
        word = plainly.0;
        plainly = operands_are_read.source_plain_word v q (own from) q.frame.words from (spots_lead.own v q from).0 ∙ plainly.1;
        number = plainly.2;
        range = y.range;
      })
      (got_by m.adts (of_kind Int) (Operate (Convert Int Int)))
      (behind_it m b now i w v p q r hold worlds it here 0 (suc p.frame.pc) _ (omega arith) refl)
      (does_same m Int into a w p here (λ z g. ap (λ (c : ℤ). Num c) (within Int z g)) y.number y.range y.holds))

kinds_go : (m : typed.Module) (b : Base m) (j : Kind) (into a : ℕ) → (j ≡ Big → ⊥) → InstrGoes m (converts j into a)
kinds_go m b Byte into a small = bytes_go m b into a
kinds_go m b Int into a small = ints_go m b into a
kinds_go m b Big into a small = absurd (small refl)

pub same_converts_go : SameConvertsGo
same_converts_go m b t j into from small k i x p q ready here =
    let it = Give t (Operate (Convert j j)) into from in
    let r = ready.0 in
    let known = r.stands.is.known in
    let found = finds m r.stands.is.function p.frame.pc known it r.stands.goes (code_here m k i x p q r it here) in
    let slot = one_slot known from (of_kind j) (subst (AreThese known from) found.2.0.0 found.1) in
    kinds_go m b j into slot.0 small k i x p q ready
    (here ∙ ap (λ (u : Ty). Some (Give u (Operate (Convert j j)) into from)) found.2.0.1
    ∙ ap (λ (rs : List ℕ). Some (Give (of_kind j) (Operate (Convert j j)) into rs)) slot.1)
