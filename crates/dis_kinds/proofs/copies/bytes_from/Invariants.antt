use Rattle.dis_memory.specs.Copies.{bytes_from}
use Rattle.dis_places.specs.Regions.{words_here}
use Rattle.dis_kinds.proofs.Steps.{Goes, nth_byte}
use Rattle.dis_kinds.proofs.copies.bytes_from.Given as goal

abbrev pub invariant-loop-k : goal.invariant-loop-k
invariant-loop-k l =
    let W = words_here l.memory.heap l.process l.fn.region in
    Goes (nth_byte W l.fn.from) (bytes_from W l.fn.from l.fn.count) (l.found.items) l.fn.count l.k
