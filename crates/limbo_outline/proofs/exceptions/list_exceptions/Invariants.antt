use Rattle.std.proofs.Common.{ℕ, map}
use Rattle.limbo_entries.specs.View.{entries_of}
use Rattle.limbo_typed.specs.View.{view_exception}
use Rattle.limbo_source_adts.specs.Definitions.{AreHeaded}
use Rattle.limbo_outline.specs.Outline.{ExceptionsTo}
use Rattle.limbo_outline.proofs.exceptions.list_exceptions.Given as goal

abbrev pub invariant-loop-number : goal.invariant-loop-number
invariant-loop-number l =
    (m : ℕ) → AreHeaded (entries_of l.table.entries.items) m l.headings
    → ExceptionsTo (entries_of l.table.entries.items) m l.module_name l.number (map view_exception l.exceptions.items)
