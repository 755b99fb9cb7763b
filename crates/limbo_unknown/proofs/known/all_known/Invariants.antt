use Rattle.std.proofs.Common.{ℕ, ◌≤◌}
use Rattle.limbo_entries.specs.View.{entries_of}
use Rattle.limbo_naming.specs.Told.{IsNaming}
use Rattle.limbo_unknown.specs.Lacking.{HasUnknown}
use Rattle.limbo_unknown.proofs.known.all_known.Given as goal

abbrev pub invariant-loop-entry : goal.invariant-loop-entry
invariant-loop-entry l =
    (m : ℕ) → IsNaming l.table m l.naming → (unknown : HasUnknown (entries_of l.table.entries.items) m) → l.entry-index ≤ unknown.number
