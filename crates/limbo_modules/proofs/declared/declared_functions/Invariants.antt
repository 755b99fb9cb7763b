use Rattle.std.proofs.Common.{map}
use Rattle.limbo_typed.specs.View.{view_declared}
use Rattle.limbo_entries.specs.View.{entries_of}
use Rattle.limbo_context.specs.View.{view_callee}
use Rattle.limbo_modules.specs.Declaring.{DeclaredTo}
use Rattle.limbo_modules.proofs.declared.declared_functions.Given as goal

abbrev pub invariant-loop-number : goal.invariant-loop-number
invariant-loop-number l =
    DeclaredTo (entries_of l.table.entries.items) l.implemented (map view_callee l.functions) l.number
    (map view_declared l.declared.items)
