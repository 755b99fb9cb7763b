use Rattle.std.proofs.Common.{map}
use Rattle.limbo_entries.specs.View.{entries_of}
use Rattle.limbo_typed.specs.View.{view_var}
use Rattle.limbo_outline.specs.Outline.{GlobalsTo}
use Rattle.limbo_outline.proofs.globals.list_globals.Given as goal

abbrev pub invariant-loop-number : goal.invariant-loop-number
invariant-loop-number l = GlobalsTo (entries_of l.table.entries.items) l.implemented l.number (map view_var l.globals.items)
