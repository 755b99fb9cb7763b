use Rattle.limbo_entries.specs.View.{entries_of}
use Rattle.limbo_imports.specs.Imports.{ImportsTo}
use Rattle.limbo_imports.proofs.imports.list_imports.Given as goal

abbrev pub invariant-loop-number : goal.invariant-loop-number
invariant-loop-number l =
    ImportsTo (entries_of l.naming.table.now.entries.items) l.implemented l.meanings l.others l.number l.imports.items
