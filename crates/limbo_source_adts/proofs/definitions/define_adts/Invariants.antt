use Rattle.std.proofs.Common.{ℕ}
use Rattle.limbo_entries.specs.View.{entries_of}
use Rattle.limbo_layout.specs.View.{view_defs}
use Rattle.limbo_source_adts.specs.Definitions.{AdtsTo, AreHeaded}
use Rattle.limbo_source_adts.proofs.definitions.define_adts.Given as goal

abbrev pub invariant-loop-number : goal.invariant-loop-number
invariant-loop-number l =
    (m : ℕ) → AreHeaded (entries_of l.table.entries.items) m l.headings → AdtsTo (entries_of l.table.entries.items) m l.number (view_defs l.adts.items)
