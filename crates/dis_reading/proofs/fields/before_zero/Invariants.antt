use Rattle.std.proofs.Common.{◌≡◌, drop}
use Rattle.dis_format.specs.Reading.{before_zero}
use Rattle.dis_reading.proofs.Texts.{further}
use Rattle.dis_reading.proofs.fields.before_zero.Given as goal

abbrev pub invariant-loop-i : goal.invariant-loop-i
invariant-loop-i l = further l.i (before_zero (drop l.i l.bytes)) ≡ before_zero l.bytes
