use Rattle.std.proofs.Common.{◌∙◌, sym, ap}
use Rattle.limbo_values.specs.declared.number.Kind.TheVariants.{Big}
use Rattle.limbo_values.specs.Operators.{applied}
use Rattle.limbo_values.proofs.Fixed.{big_add, big_subtract, big_and, big_xor, big_or}
use Rattle.limbo_values.proofs.big.apply.Goals as goal

pub returns-in-Add : goal.returns-in-Add
returns-in-Add c =
    big_add c.args.a c.args.b c.ranges.a c.ranges.b ∙ sym (ap (λ o. applied Big o c.args.a c.args.b) c.in-Add.is)

pub returns-in-Subtract : goal.returns-in-Subtract
returns-in-Subtract c =
    big_subtract c.args.a c.args.b c.ranges.a c.ranges.b ∙ sym (ap (λ o. applied Big o c.args.a c.args.b) c.in-Subtract.is)

pub returns-in-And : goal.returns-in-And
returns-in-And c =
    big_and c.args.a c.args.b c.ranges.a c.ranges.b ∙ sym (ap (λ o. applied Big o c.args.a c.args.b) c.in-And.is)

pub returns-in-Xor : goal.returns-in-Xor
returns-in-Xor c =
    big_xor c.args.a c.args.b c.ranges.a c.ranges.b ∙ sym (ap (λ o. applied Big o c.args.a c.args.b) c.in-Xor.is)

pub returns-in-Or : goal.returns-in-Or
returns-in-Or c =
    big_or c.args.a c.args.b c.ranges.a c.ranges.b ∙ sym (ap (λ o. applied Big o c.args.a c.args.b) c.in-Or.is)
