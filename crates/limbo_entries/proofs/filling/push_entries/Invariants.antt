use Rattle.std.proofs.Common.{◌≡◌, ◌++◌, drop, map}
use Rattle.limbo_entries.specs.View.{placed}
use Rattle.limbo_entries.proofs.filling.push_entries.Given as goal

abbrev pub invariant-loop-row : goal.invariant-loop-row
invariant-loop-row l =
    l.entries.items ++ map (placed l.within) (drop l.row-index l.rows) ≡ l.fn.entries.items ++ map (placed l.within) l.rows
