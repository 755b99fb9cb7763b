use Rattle.std.proofs.Common.{pos, ◌∙◌, sym, ap, arith}
use Rattle.limbo_values.specs.declared.number.Kind.TheVariants.{Byte}
use Rattle.limbo_values.specs.Operators.{applied}
use Rattle.limbo_values.proofs.Fixed.{byte_xor, byte_or}
use Rattle.limbo_values.proofs.byte.apply.Goals as goal

pub returns-in-Xor : goal.returns-in-Xor
returns-in-Xor c =
    byte_xor c.args.a c.args.b (omega arith) (omega arith) ∙ sym (ap (λ o. applied Byte o (pos c.args.a) (pos c.args.b)) c.in-Xor.is)

pub returns-in-Or : goal.returns-in-Or
returns-in-Or c =
    byte_or c.args.a c.args.b (omega arith) (omega arith) ∙ sym (ap (λ o. applied Byte o (pos c.args.a) (pos c.args.b)) c.in-Or.is)
