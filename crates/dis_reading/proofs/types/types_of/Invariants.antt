use Rattle.std.proofs.Common.{◌≡◌, ◌-◌}
use Rattle.dis_format.specs.Reading.{types_at}
use Rattle.dis_reading.specs.Body.{with_front}
use Rattle.dis_reading.proofs.types.types_of.Given as goal

abbrev pub invariant-loop-place : goal.invariant-loop-place
invariant-loop-place l = with_front l.types.items (types_at l.data_size l.place (l.count - l.place) l.rest)
    ≡ types_at l.data_size 0 l.count l.bytes
