use Rattle.std.proofs.Common.{map}
use Rattle.limbo_entries.specs.View.{entries_of}
use Rattle.limbo_context.specs.View.{view_valued}
use Rattle.limbo_outline.specs.Outline.{ConstantsTo}
use Rattle.limbo_outline.proofs.constants.list_constants.Given as goal

abbrev pub invariant-loop-number : goal.invariant-loop-number
invariant-loop-number l = ConstantsTo (entries_of l.table.entries.items) l.implemented l.number (map view_valued l.constants.items)
