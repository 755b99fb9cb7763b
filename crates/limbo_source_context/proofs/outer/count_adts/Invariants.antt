use Rattle.std.proofs.Common.{◌≡◌, count_by, take}
use Rattle.limbo_entries.specs.View.{entries_of}
use Rattle.limbo_type_names.specs.Counts.{is_adt_entry}
use Rattle.limbo_source_context.proofs.outer.count_adts.Given as goal

abbrev pub invariant-loop-entry : goal.invariant-loop-entry
invariant-loop-entry l = l.count ≡ count_by is_adt_entry (take l.entry-index (entries_of l.table.entries.items))
