use Rattle.std.proofs.Common.{◌∙◌, sym, ap}
use Rattle.limbo_values.specs.declared.number.Kind.TheVariants.{Int}
use Rattle.limbo_values.specs.Operators.{applied}
use Rattle.limbo_values.proofs.Fixed.{int_add, int_subtract, int_and, int_xor, int_or}
use Rattle.limbo_values.proofs.int.apply.Goals as goal

pub returns-in-Add : goal.returns-in-Add
returns-in-Add c =
    int_add c.args.a c.args.b c.ranges.a c.ranges.b ∙ sym (ap (λ o. applied Int o c.args.a c.args.b) c.in-Add.is)

pub returns-in-Subtract : goal.returns-in-Subtract
returns-in-Subtract c =
    int_subtract c.args.a c.args.b c.ranges.a c.ranges.b ∙ sym (ap (λ o. applied Int o c.args.a c.args.b) c.in-Subtract.is)

pub returns-in-And : goal.returns-in-And
returns-in-And c =
    int_and c.args.a c.args.b c.ranges.a c.ranges.b ∙ sym (ap (λ o. applied Int o c.args.a c.args.b) c.in-And.is)

pub returns-in-Xor : goal.returns-in-Xor
returns-in-Xor c =
    int_xor c.args.a c.args.b c.ranges.a c.ranges.b ∙ sym (ap (λ o. applied Int o c.args.a c.args.b) c.in-Xor.is)

pub returns-in-Or : goal.returns-in-Or
returns-in-Or c =
    int_or c.args.a c.args.b c.ranges.a c.ranges.b ∙ sym (ap (λ o. applied Int o c.args.a c.args.b) c.in-Or.is)
