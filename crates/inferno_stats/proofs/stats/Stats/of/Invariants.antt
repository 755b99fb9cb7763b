use Rattle.std.proofs.Common.{◌≡◌, ◌+◌, ◌≤◌, drop}
use Rattle.dis_machine.specs.Journal.{quanta}
use Rattle.inferno_stats.specs.Stats.{replies}
use Rattle.inferno_stats.proofs.stats.Stats.of.Given as goal

-- what is counted so far, and what is left to be counted, are the whole; no more is counted than was seen
abbrev pub invariant-loop-event : goal.invariant-loop-event
invariant-loop-event l =
    let es = l.journal.events in
    (l.quanta + quanta (drop l.event-index es) ≡ quanta es)
    × (l.replies + replies (drop l.event-index es) ≡ replies es)
    × (l.quanta + l.replies ≤ l.event-index)
