use Rattle.std.proofs.Common.{◌≡◌, ◌-◌, length}
use Rattle.dis_format.specs.Loading.{opening}
use Rattle.dis_format.specs.Reading.{items_at}
use Rattle.dis_filling.specs.Filling.{loading_of}
use Rattle.dis_reading.specs.Body.{with_front}
use Rattle.dis_reading.proofs.data.data_at.Given as goal

abbrev pub invariant-loop : goal.invariant-loop
invariant-loop l = with_front l.items.items (items_at l.types (length l.bytes - l.counter) (loading_of l.filled) l.rest)
    ≡ items_at l.types (length l.bytes) (opening l.data_size) l.bytes
