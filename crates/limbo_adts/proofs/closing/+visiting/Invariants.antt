use Rattle.std.proofs.Common.{take}
use Rattle.limbo_types.specs.View.{view_tys}
use Rattle.limbo_adts.specs.Closed.{all_named, Visited}
use Rattle.limbo_adts.proofs.closing.+visiting.Given as goal

abbrev pub invariant-visit_tuple-loop-t : goal.invariant-visit_tuple-loop-t
invariant-visit_tuple-loop-t l = Visited (all_named (view_tys (take l.t-index l.parts))) l.fn.search.marks.items l.fn.search.found.items l.search.marks.items l.search.found.items
