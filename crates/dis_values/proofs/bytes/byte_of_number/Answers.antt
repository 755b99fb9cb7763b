use Rattle.std.proofs.Common.{arith}
use Rattle.dis_values.proofs.Packed.{some_worth}
use Rattle.dis_values.proofs.bytes.byte_of_number.Goals as goal

pub nonzero_div-result : goal.nonzero_div-result
nonzero_div-result c = omega (arith, some_worth c.args.k c.requires)
