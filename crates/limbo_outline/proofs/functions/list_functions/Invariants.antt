use Rattle.std.proofs.Common.{map}
use Rattle.limbo_entries.specs.View.{entries_of}
use Rattle.limbo_context.specs.View.{view_callee}
use Rattle.limbo_outline.specs.Outline.{FunctionsTo}
use Rattle.limbo_outline.proofs.functions.list_functions.Given as goal

abbrev pub invariant-loop-number : goal.invariant-loop-number
invariant-loop-number l = FunctionsTo (entries_of l.table.entries.items) l.implemented l.number (map view_callee l.functions.items)
