use Rattle.std.proofs.Common.{◌≡◌, take}
use Rattle.limbo_entries.specs.View.{entries_of}
use Rattle.limbo_source_adts.specs.Modules.{modules_of}
use Rattle.limbo_source_adts.proofs.adts.module_names.Given as goal

abbrev pub invariant-loop-entry : goal.invariant-loop-entry
invariant-loop-entry l = l.names.items ≡ modules_of (take l.entry-index (entries_of l.table.entries.items))
