use Rattle.std.proofs.Common.{◌≡◌, ◌-◌}
use Rattle.dis_format.specs.Reading.{many, arm_at}
use Rattle.dis_reading.specs.Body.{with_front}
use Rattle.dis_reading.proofs.sections.arms_at.Given as goal

abbrev pub invariant-loop : goal.invariant-loop
invariant-loop l = with_front l.arms.items (many arm_at (l.count - l.counter) l.rest) ≡ many arm_at l.count l.bytes
