use Rattle.std.proofs.Common.{ℕ}
use Rattle.limbo_entries.specs.Entries.{Finds}
use Rattle.limbo_entries.specs.View.{entries_of}
use Rattle.limbo_entries.proofs.Seeking.{depth}
use Rattle.limbo_entries.proofs.table.Table.find.Given as goal

abbrev pub invariant-loop-at : goal.invariant-loop-at
invariant-loop-at l = record {
  out : (k : ℕ) → Finds (entries_of l.self.entries.items) l.implemented l.name l.at k
      → Finds (entries_of l.self.entries.items) l.implemented l.name l.fn.scope k;
  back : (k : ℕ) → Finds (entries_of l.self.entries.items) l.implemented l.name l.fn.scope k
      → Finds (entries_of l.self.entries.items) l.implemented l.name l.at k;
}

abbrev pub decreases-loop-at : goal.decreases-loop-at
decreases-loop-at l = depth l.at
