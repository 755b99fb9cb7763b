-- The denial of an int, and how two bytes or two ints compare: what a branch decides.
use Rattle.std.proofs.Common.{◌≡◌, ℕ, ℤ, pos, List, [], ◌∷◌, Some, refl, sym, ap, ◌∙◌, subst}
use Rattle.std.specs.Ordering.{int_eq}
use Rattle.limbo_types.specs.Types as ty
use Rattle.limbo_types.specs.Types.{Ty}
use Rattle.limbo_values.specs.declared.number.Kind.{Kind}
use Rattle.limbo_values.specs.declared.number.Kind.TheVariants.{Byte, Int, Big}
use Rattle.limbo_values.specs.declared.operator.Comparison.{Comparison}
use Rattle.limbo_values.specs.declared.operator.Comparison.TheVariants as comparison
use Rattle.limbo_values.specs.Operators.{compared, truth, denied}
use Rattle.limbo_values.proofs.Ranges.{within}
use Rattle.limbo_typed.specs.Typed as typed
use Rattle.limbo_typed.specs.Fitting.{of_kind}
use Rattle.limbo_typed.specs.declared.operation.Operation.TheVariants.{Compare, Not}
use Rattle.limbo_meaning.specs.Trees.{Operate}
use Rattle.limbo_meaning.specs.Values.{Num, number_of, fitted}
use Rattle.system_model.specs.Limits.{frames_limit}
use Rattle.core_code.specs.Code.{Instr, Give}
use Rattle.core_code.specs.Machine as code
use Rattle.core_code.specs.Slots as core
use Rattle.core_code.specs.Slots.{Slot, Holds}
use Rattle.core_typing.specs.Held as held
use Rattle.core_typing.specs.Needs.{AreThese}
use Rattle.dis_isa.specs.declared.inst.Operand.TheVariants as operand
use Rattle.dis_isa.specs.declared.inst.Middle.TheVariants as middle
use Rattle.dis_isa.specs.declared.op.Op.TheVariants as op
use Rattle.dis_meaning.specs.Words.{Found}
use Rattle.dis_meaning.specs.Numbers.{Branches, number_row}
use Rattle.dis_memory.specs.Blocks.{World}
use Rattle.value_words.specs.Facts.{Facts}
use Rattle.value_frames.specs.Frames.{AsNumber, form_of, number_place}
use Rattle.value_moves.specs.Operands.{inst, own, of_own}
use Rattle.value_moves.proofs.Leading.{spots_lead}
use Rattle.value_code.specs.Objects.{object_of}
use Rattle.value_code.specs.Works.{branch_op}
use Rattle.number_effects.specs.Numbers.{where_holds}
use Rattle.number_effects.proofs.Numbers.{numbers_work}
use Rattle.number_effects.proofs.Reading.{operands_are_read}
use Rattle.value_follows.specs.Stands.{Ready, types_of}
use Rattle.value_follows.specs.Sides.{program}
use Rattle.value_follows.specs.Rows.{Base, InstrGoes, DenialsGo, ComparesGo}
use Rattle.value_follows.proofs.Standing.{finds, code_here}
use Rattle.value_follows.proofs.Slots.{uses, number_is, NumberIs}
use Rattle.value_follows.proofs.Arithmetic.{two_slots}
use Rattle.value_follows.proofs.Truths.{same_held}
use Rattle.value_follows.proofs.Decided.{IsDecided, truth_range, decided_goes}

op_row : (c : Comparison) (j : Kind) → number_row (branch_op c j) ≡ Some (Branches j c)
op_row comparison.Equal Byte = refl
op_row comparison.Equal Int = refl
op_row comparison.Equal Big = refl
op_row comparison.Unequal Byte = refl
op_row comparison.Unequal Int = refl
op_row comparison.Unequal Big = refl
op_row comparison.Less Byte = refl
op_row comparison.Less Int = refl
op_row comparison.Less Big = refl
op_row comparison.AtMost Byte = refl
op_row comparison.AtMost Int = refl
op_row comparison.AtMost Big = refl
op_row comparison.Greater Byte = refl
op_row comparison.Greater Int = refl
op_row comparison.Greater Big = refl
op_row comparison.AtLeast Byte = refl
op_row comparison.AtLeast Int = refl
op_row comparison.AtLeast Big = refl

-- ---- denial

denial_row : (into a : ℕ) → IsDecided (Give ty.Int (Operate Not) into (a ∷ [])) into op.Beqw (λ place. own (place a)) (λ place. middle.Imm (pos 0))
denial_row into a = record {
  uses = λ n u. u.0;
  clean = λ s t slots f. f.3;
  behind = λ defs pc slots. refl;
  code = λ c. refl;
  plain = refl;
}

denied_goes : (m : typed.Module) (b : Base m) (into a : ℕ) → InstrGoes m (Give ty.Int (Operate Not) into (a ∷ []))
denied_goes m b into a k i x p q ready here =
    let z = first k x ready.0 in
    decided_goes m b (Give ty.Int (Operate Not) into (a ∷ [])) into op.Beqw (λ place. own (place a)) (λ place. middle.Imm (pos 0)) (denial_row into a) i p q here
    ready.0.stands.is.number (int_eq z.number (pos 0)) k x ready refl
    (λ now y s target l.
    let y' = first now y s in
    let to = number_place m.adts (types_of m s.stands.is.function) a in
    numbers_work.branches frames_limit (object_of m) y q (inst op.Beqw (own to) (middle.Imm (pos 0)) (operand.Imm (pos target))) Int comparison.Equal y'.number (pos 0) target refl
    (operands_are_read.source_number y q (own to) q.frame.words to Int (spots_lead.own y q to).0 ∙ y'.found)
    (operands_are_read.middle_given y q Int (pos 0)) refl l
    ∙ ap (λ (n : ℤ). Found (where_holds y q (compared comparison.Equal n (pos 0)) target)) (same_held y'.number z.number (sym y'.holds ∙ z.holds)))
    (λ w.
    ap (code.next frames_limit (program m) w p) here
    ∙ ap (λ (l : Slot). code.goes_on w p (core.put p.frame.slots into (Holds (fitted m.adts ty.Int (Num (denied (number_of (core.value_of l)))))))) z.holds
    ∙ ap (λ (y : ℤ). code.goes_on w p (core.put p.frame.slots into (Holds (Num y)))) (within Int (truth (int_eq z.number (pos 0))) (truth_range (int_eq z.number (pos 0)))))
  where
    first : (k : Facts) (x : World) (r : Ready m k i x p q) → NumberIs m k i x [] p.frame q.frame r.stands.is Int a
    first k x r =
        let is = r.stands.is in
        let it = Give ty.Int (Operate Not) into (a ∷ []) in
        let row = code_here m k i x p q r it here in
        let found = finds m is.function p.frame.pc is.known it r.stands.goes row in
        number_is m k i x [] p.frame q.frame is Int a refl (uses m k i x [] p.frame q.frame is p.frame.pc it row).1.0 (λ e. e)
        (subst (AreThese is.known (a ∷ [])) found.2.0.0 found.1).0

pub one_slot : (slots : held.Slots) (from : List ℕ) (t : Ty) → AreThese slots from (t ∷ []) → (a : ℕ) × (from ≡ a ∷ [])
one_slot slots [] t these = absurd these
one_slot slots (a ∷ []) t these = (a, refl)
one_slot slots (a ∷ c ∷ more) t these = absurd these.1

pub denials_go : DenialsGo
denials_go m b t into from k i x p q ready here =
    let it = Give t (Operate Not) into from in
    let r = ready.0 in
    let known = r.stands.is.known in
    let found = finds m r.stands.is.function p.frame.pc known it r.stands.goes (code_here m k i x p q r it here) in
    let slot = one_slot known from ty.Int (subst (AreThese known from) found.2.0.0 found.1) in
    denied_goes m b into slot.0 k i x p q ready
    (here ∙ ap (λ (u : Ty). Some (Give u (Operate Not) into from)) found.2.0.1
    ∙ ap (λ (rs : List ℕ). Some (Give ty.Int (Operate Not) into rs)) slot.1)

-- ---- comparisons

module _ (m : typed.Module) (b : Base m) (c : Comparison) (j : Kind) (form : form_of (of_kind j) ≡ AsNumber) (into a d : ℕ)
    (row : IsDecided (Give ty.Int (Operate (Compare c j)) into (a ∷ d ∷ [])) into (branch_op c j) (λ place. own (place a)) (λ place. of_own (place d))) where
  abbrev compare : Instr
  compare = Give ty.Int (Operate (Compare c j)) into (a ∷ d ∷ [])

  compared_goes : InstrGoes m compare
  compared_goes k i x p q ready here =
      let y = left k x ready.0 in
      let z = right k x ready.0 in
      decided_goes m b compare into (branch_op c j) (λ place. own (place a)) (λ place. of_own (place d)) row i p q here
      ready.0.stands.is.number (compared c y.number z.number) k x ready refl
      (λ now v s target l.
      let y' = left now v s in
      let z' = right now v s in
      let first = number_place m.adts (types_of m s.stands.is.function) a in
      let second = number_place m.adts (types_of m s.stands.is.function) d in
      numbers_work.branches frames_limit (object_of m) v q (inst (branch_op c j) (own first) (of_own second) (operand.Imm (pos target))) j c y'.number z'.number target (op_row c j)
      (operands_are_read.source_number v q (own first) q.frame.words first j (spots_lead.own v q first).0 ∙ y'.found)
      (operands_are_read.own_number v q j second ∙ z'.found) refl l
      ∙ ap (λ (n : ℤ). Found (where_holds v q (compared c n z'.number) target)) (same_held y'.number y.number (sym y'.holds ∙ y.holds))
      ∙ ap (λ (n : ℤ). Found (where_holds v q (compared c y.number n) target)) (same_held z'.number z.number (sym z'.holds ∙ z.holds)))
      (λ w.
      ap (code.next frames_limit (program m) w p) here
      ∙ ap (λ (l : Slot). code.goes_on w p (core.put p.frame.slots into
      (Holds (fitted m.adts ty.Int (Num (truth (compared c (number_of (core.value_of l)) (number_of (core.value_of (core.slot p.frame.slots d)))))))))) y.holds
      ∙ ap (λ (l : Slot). code.goes_on w p (core.put p.frame.slots into
      (Holds (fitted m.adts ty.Int (Num (truth (compared c y.number (number_of (core.value_of l))))))))) z.holds
      ∙ ap (λ (n : ℤ). code.goes_on w p (core.put p.frame.slots into (Holds (Num n))))
      (within Int (truth (compared c y.number z.number)) (truth_range (compared c y.number z.number))))
    where
      both : (k : Facts) (x : World) (r : Ready m k i x p q) → AreThese r.stands.is.known (a ∷ d ∷ []) (of_kind j ∷ of_kind j ∷ [])
      both k x r =
          let found = finds m r.stands.is.function p.frame.pc r.stands.is.known compare r.stands.goes (code_here m k i x p q r compare here) in
          subst (AreThese r.stands.is.known (a ∷ d ∷ [])) found.2.0.0 found.1

      left : (k : Facts) (x : World) (r : Ready m k i x p q) → NumberIs m k i x [] p.frame q.frame r.stands.is j a
      left k x r =
          number_is m k i x [] p.frame q.frame r.stands.is j a form
          (uses m k i x [] p.frame q.frame r.stands.is p.frame.pc compare (code_here m k i x p q r compare here)).1.0 (λ e. e) (both k x r).0

      right : (k : Facts) (x : World) (r : Ready m k i x p q) → NumberIs m k i x [] p.frame q.frame r.stands.is j d
      right k x r =
          number_is m k i x [] p.frame q.frame r.stands.is j d form
          (uses m k i x [] p.frame q.frame r.stands.is p.frame.pc compare (code_here m k i x p q r compare here)).1.1.0 (λ e. e) (both k x r).1.0

kinds_go : (m : typed.Module) (b : Base m) (c : Comparison) (j : Kind) (into a d : ℕ) → (j ≡ Big → ⊥)
    → InstrGoes m (Give ty.Int (Operate (Compare c j)) into (a ∷ d ∷ []))
kinds_go m b c Byte into a d small = compared_goes m b c Byte refl into a d (record {
  uses = λ n u. u.0;
  clean = λ s t slots f. f.3;
  behind = λ defs pc slots. refl;
  code = λ s. refl;
  plain = refl;
})
kinds_go m b c Int into a d small = compared_goes m b c Int refl into a d (record {
  uses = λ n u. u.0;
  clean = λ s t slots f. f.3;
  behind = λ defs pc slots. refl;
  code = λ s. refl;
  plain = refl;
})
kinds_go m b c Big into a d small = absurd (small refl)

pub compares_go : ComparesGo
compares_go m b t c j into from small k i x p q ready here =
    let it = Give t (Operate (Compare c j)) into from in
    let r = ready.0 in
    let known = r.stands.is.known in
    let found = finds m r.stands.is.function p.frame.pc known it r.stands.goes (code_here m k i x p q r it here) in
    let slots = two_slots known from (of_kind j) (of_kind j) (subst (AreThese known from) found.2.0.0 found.1) in
    kinds_go m b c j into slots.0 slots.1 small k i x p q ready
    (here ∙ ap (λ (u : Ty). Some (Give u (Operate (Compare c j)) into from)) found.2.0.1
    ∙ ap (λ (rs : List ℕ). Some (Give ty.Int (Operate (Compare c j)) into rs)) slots.2)
