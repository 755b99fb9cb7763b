-- The truth of an int, its denial, and how two numbers compare: what a branch decides.
use Rattle.std.proofs.Common.{◌≡◌, ℕ, ℤ, pos, true, false, if◌then◌else◌, [], refl, sym, ap, ◌∙◌}
use Rattle.std.specs.declared.cmp.Ordering.{Ordering}
use Rattle.std.specs.declared.cmp.Ordering.TheVariants as ordering
use Rattle.std.specs.Ordering.{int_cmp, is_eq, is_ne}
use Rattle.limbo_values.specs.declared.number.Kind.TheVariants.{Int}
use Rattle.limbo_values.specs.declared.operator.Comparison.TheVariants.{Unequal}
use Rattle.limbo_values.specs.Operators as operators
use Rattle.limbo_values.specs.Operators.{compared, truth}
use Rattle.limbo_meaning.specs.Operations.{truth_of}
use Rattle.limbo_meaning.specs.Values.{Num}
use Rattle.system_model.specs.Limits.{frames_limit}
use Rattle.core_code.specs.Code.{Truth}
use Rattle.core_code.specs.Machine as code
use Rattle.core_code.specs.Slots as core
use Rattle.core_code.specs.Slots.{Slot, Holds}
use Rattle.dis_isa.specs.declared.inst.Operand.TheVariants as operand
use Rattle.dis_isa.specs.declared.inst.Middle.TheVariants as middle
use Rattle.dis_isa.specs.declared.op.Op.TheVariants as op
use Rattle.dis_meaning.specs.Words.{Found}
use Rattle.dis_memory.specs.Blocks.{World}
use Rattle.value_words.specs.Facts.{Facts}
use Rattle.value_frames.specs.Frames.{number_place}
use Rattle.value_moves.specs.Operands.{inst, own}
use Rattle.value_moves.proofs.Leading.{spots_lead}
use Rattle.value_code.specs.Objects.{object_of}
use Rattle.number_effects.specs.Numbers.{where_holds}
use Rattle.number_effects.proofs.Numbers.{numbers_work}
use Rattle.number_effects.proofs.Reading.{operands_are_read}
use Rattle.value_follows.specs.Stands.{Ready, types_of}
use Rattle.value_follows.specs.Sides.{program}
use Rattle.value_follows.specs.Rows.{TruthsGo}
use Rattle.value_follows.proofs.Standing.{finds, code_here}
use Rattle.value_follows.proofs.Slots.{uses, number_is, NumberIs}
use Rattle.value_follows.proofs.Decided.{IsDecided, decided_goes}

unequal_holds : (o : Ordering) → is_ne o ≡ (if is_eq o then false else true)
unequal_holds ordering.Less = refl
unequal_holds ordering.Equal = refl
unequal_holds ordering.Greater = refl

pub same_held : (y z : ℤ) → Holds (Num y) ≡ Holds (Num z) → y ≡ z
same_held y z e = cc

truth_row : (into from : ℕ) → IsDecided (Truth into from) into op.Bnew (λ place. own (place from)) (λ place. middle.Imm (pos 0))
truth_row into from = record {
  uses = λ n u. u.0;
  clean = λ s t slots f. f.1;
  behind = λ defs pc slots. refl;
  code = λ c. refl;
  plain = refl;
}

pub truths_go : TruthsGo
truths_go m b into from k i x p q ready here =
    let z = number_at_first k x ready.0 in
    decided_goes m b (Truth into from) into op.Bnew (λ place. own (place from)) (λ place. middle.Imm (pos 0)) (truth_row into from) i p q here
    ready.0.stands.is.number (operators.holds z.number) k x ready refl
    (λ now y s target l.
    let y' = number_at_first now y s in
    let to = number_place m.adts (types_of m s.stands.is.function) from in
    numbers_work.branches frames_limit (object_of m) y q (inst op.Bnew (own to) (middle.Imm (pos 0)) (operand.Imm (pos target))) Int Unequal y'.number (pos 0) target refl
    (operands_are_read.source_number y q (own to) q.frame.words to Int (spots_lead.own y q to).0 ∙ y'.found)
    (operands_are_read.middle_given y q Int (pos 0)) refl l
    ∙ ap (λ g. Found (where_holds y q g target))
    (unequal_holds (int_cmp y'.number (pos 0)) ∙ ap operators.holds (same_held y'.number z.number (sym y'.holds ∙ z.holds))))
    (λ w.
    ap (code.next frames_limit (program m) w p) here
    ∙ ap (λ (l : Slot). code.goes_on w p (core.put p.frame.slots into (Holds (truth_of (core.value_of l))))) z.holds)
  where
    number_at_first : (k : Facts) (x : World) (r : Ready m k i x p q) → NumberIs m k i x [] p.frame q.frame r.stands.is Int from
    number_at_first k x r =
        let is = r.stands.is in
        let row = code_here m k i x p q r (Truth into from) here in
        number_is m k i x [] p.frame q.frame is Int from refl (uses m k i x [] p.frame q.frame is p.frame.pc (Truth into from) row).1 (λ e. e)
        (finds m is.function p.frame.pc is.known (Truth into from) r.stands.goes row).0
