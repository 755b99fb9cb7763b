use Rattle.std.proofs.Common.{◌≡◌, ◌-◌}
use Rattle.dis_format.specs.Reading.{many, inst_at}
use Rattle.dis_reading.specs.Body.{with_front}
use Rattle.dis_reading.proofs.instructions.insts_at.Given as goal

abbrev pub invariant-loop : goal.invariant-loop
invariant-loop l = with_front l.insts.items (many inst_at (l.count - l.counter) l.rest) ≡ many inst_at l.count l.bytes
