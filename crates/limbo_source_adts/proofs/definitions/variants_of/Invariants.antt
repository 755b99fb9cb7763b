use Rattle.std.proofs.Common.{ℕ, map, take}
use Rattle.limbo_entries.specs.View.{entries_of}
use Rattle.limbo_layout.specs.View.{view_variant}
use Rattle.limbo_source_adts.specs.Definitions.{VariantsAre, AreHeaded}
use Rattle.limbo_source_adts.proofs.definitions.variants_of.Given as goal

abbrev pub invariant-loop-number : goal.invariant-loop-number
invariant-loop-number l =
    (m : ℕ) → AreHeaded (entries_of l.table.entries.items) m l.headings
    → VariantsAre (entries_of l.table.entries.items) m (take l.number-index l.numbers) (map view_variant l.variants.items)
