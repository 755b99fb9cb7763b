use Rattle.std.proofs.Common.{◌≡◌, ◌-◌}
use Rattle.styx_decoding.specs.Reading.{items_at, qid_at}
use Rattle.styx_decoding.proofs.Loop.{with_front}
use Rattle.styx_decoding.proofs.reading.qids_at.Given as goal

abbrev pub invariant-loop : goal.invariant-loop
invariant-loop l = with_front l.qids.items (items_at qid_at (l.count - l.counter) l.rest)
    ≡ items_at qid_at l.count l.bytes
