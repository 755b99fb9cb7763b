use Rattle.std.proofs.Common.{◌≡◌, ◌-◌}
use Rattle.dis_format.specs.Reading.{many, catch_at}
use Rattle.dis_reading.specs.Body.{with_front}
use Rattle.dis_reading.proofs.sections.catches_at.Given as goal

abbrev pub invariant-loop : goal.invariant-loop
invariant-loop l = with_front l.handlers.items (many catch_at (l.count - l.counter) l.rest) ≡ many catch_at l.count l.bytes
