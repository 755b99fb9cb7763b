use Rattle.std.proofs.Common.{ℕ, take}
use Rattle.limbo_entries.specs.View.{entries_of}
use Rattle.limbo_layout.specs.View.{view_fields}
use Rattle.limbo_source_adts.specs.Definitions.{FieldsAre, AreHeaded}
use Rattle.limbo_source_adts.proofs.definitions.fields_of.Given as goal

abbrev pub invariant-loop-number : goal.invariant-loop-number
invariant-loop-number l =
    (m : ℕ) → AreHeaded (entries_of l.table.entries.items) m l.headings
    → FieldsAre (entries_of l.table.entries.items) m (take l.number-index l.numbers) (view_fields l.fields.items)
