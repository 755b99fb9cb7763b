use Rattle.dis_meaning.specs.Words.{Found}
use Rattle.dis_memory.specs.Copies.{taken}
use Rattle.dis_places.specs.Regions.{words_here}
use Rattle.dis_places.specs.Words.{view_words}
use Rattle.dis_kinds.proofs.Steps.{Goes, nth_by}
use Rattle.dis_kinds.proofs.copies.taken_words.Given as goal

abbrev pub invariant-loop-k : goal.invariant-loop-k
invariant-loop-k l =
    let W = words_here l.memory.heap l.process l.fn.region in
    Goes (nth_by W l.fn.from (λ w. Found w)) (taken W l.fn.from l.fn.count) (view_words l.found.items) l.fn.count l.k
