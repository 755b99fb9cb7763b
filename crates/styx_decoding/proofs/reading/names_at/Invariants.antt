use Rattle.std.proofs.Common.{◌≡◌, ◌-◌}
use Rattle.styx_decoding.specs.Reading.{items_at, text_at}
use Rattle.styx_decoding.proofs.Loop.{with_front}
use Rattle.styx_decoding.proofs.reading.names_at.Given as goal

abbrev pub invariant-loop : goal.invariant-loop
invariant-loop l = with_front l.names.items (items_at text_at (l.count - l.counter) l.rest)
    ≡ items_at text_at l.count l.bytes
