use Rattle.std.proofs.Common.{ℕ, ◌<◌, map}
use Rattle.limbo_typed.specs.View.{view_var}
use Rattle.limbo_entries.specs.View.{entries_of}
use Rattle.limbo_source_context.specs.Beginning.{BeginsSo}
use Rattle.limbo_source_context.proofs.fitting.check_beginnings.Given as goal

abbrev pub invariant-loop-number : goal.invariant-loop-number
invariant-loop-number l = (k : ℕ) → k < l.number → BeginsSo (entries_of l.table.entries.items) l.implemented (map view_var l.globals) k
