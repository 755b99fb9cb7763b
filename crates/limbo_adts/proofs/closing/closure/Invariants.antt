use Rattle.std.proofs.Common.{◌-◌, length}
use Rattle.limbo_layout.specs.View.{view_defs}
use Rattle.limbo_adts.specs.Closed.{Searches}
use Rattle.limbo_adts.proofs.closing.closure.Given as goal

abbrev pub invariant-looking : goal.invariant-looking
invariant-looking l = Searches (view_defs l.defs) l.from l.search.marks.items l.search.found.items l.next

abbrev pub decreases-looking : goal.decreases-looking
decreases-looking l = length l.defs - l.next
