use Rattle.std.proofs.Common.{◌/◌}
use Rattle.dis_memory.specs.Copies.{typed_words}
use Rattle.dis_places.specs.Regions.{words_here}
use Rattle.dis_places.specs.Words.{view_words}
use Rattle.dis_kinds.proofs.Steps.{Goes, nth_marked}
use Rattle.dis_kinds.proofs.copies.typed_words.Given as goal

abbrev pub invariant-loop-k : goal.invariant-loop-k
invariant-loop-k l =
    let W = words_here l.memory.heap l.process l.fn.region in
    Goes (nth_marked W l.fn.from l.fn.desc) (typed_words l.fn.desc W l.fn.from) (view_words l.found.items) (l.fn.desc.size / 4) l.k
