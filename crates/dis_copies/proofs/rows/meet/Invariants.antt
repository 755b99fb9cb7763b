use Rattle.std.proofs.Common.{◌≡◌, ◌+◌, drop}
use Rattle.dis_places.specs.Regions.{words_here}
use Rattle.dis_places.specs.Words.{view_words}
use Rattle.dis_copies.specs.Spans.{meets}
use Rattle.dis_copies.proofs.rows.meet.Given as goal

-- What is left decides.
abbrev pub invariant-loop-k : goal.invariant-loop-k
invariant-loop-k l =
    let ws = words_here l.memory.heap l.process l.region in
    meets ws l.from (view_words l.words) ≡ meets ws (l.from + l.k) (view_words (drop l.k l.words))
