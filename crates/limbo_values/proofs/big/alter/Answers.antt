use Rattle.std.proofs.Common.{pos, sym, ap, ◌∙◌, arith, w64}
use Rattle.std.specs.Int.{int_wrapping_neg}
use Rattle.std.proofs.lemmas.Int.{wrapping_add_is, wrapping_sub_is, wrapping_neg_is, to_z-of_z}
use Rattle.limbo_values.specs.declared.number.Kind.TheVariants.{Big}
use Rattle.limbo_values.specs.Operators.{altered}
use Rattle.limbo_values.proofs.big.alter.Goals as goal

pub returns-in-Minus : goal.returns-in-Minus
returns-in-Minus c =
    let is = c.wrapping_neg.ensures
    ∙ ap (int_wrapping_neg w64) (to_z-of_z w64 c.args.a c.ranges.a)
    ∙ wrapping_neg_is w64 c.args.a c.ranges.a in
    to_z-of_z w64 _ (record { sfits = c.wrapping_neg.type_inv }) ∙ is
    ∙ sym (ap (λ o. altered Big o c.args.a) c.in-Minus.is)

pub returns-in-Increment : goal.returns-in-Increment
returns-in-Increment c =
    wrapping_add_is w64 c.args.a (pos 1) c.ranges.a (omega arith)
    ∙ sym (ap (λ o. altered Big o c.args.a) c.in-Increment.is)

pub returns-in-Decrement : goal.returns-in-Decrement
returns-in-Decrement c =
    wrapping_sub_is w64 c.args.a (pos 1) c.ranges.a (omega arith)
    ∙ sym (ap (λ o. altered Big o c.args.a) c.in-Decrement.is)
