use Rattle.dis_meaning.specs.Words.{plain}
use Rattle.dis_memory.specs.Copies.{plain_words}
use Rattle.dis_places.specs.Regions.{words_here}
use Rattle.dis_places.specs.Words.{view_words}
use Rattle.dis_kinds.proofs.Steps.{Goes, nth_by}
use Rattle.dis_kinds.proofs.copies.plain_words.Given as goal

abbrev pub invariant-loop-k : goal.invariant-loop-k
invariant-loop-k l =
    let W = words_here l.memory.heap l.process l.fn.region in
    Goes (nth_by W l.fn.from plain) (plain_words W l.fn.from l.fn.count) (view_words l.found.items) l.fn.count l.k
