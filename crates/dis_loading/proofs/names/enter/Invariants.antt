use Rattle.std.proofs.Common.{◌≡◌, ◌++◌, drop, map}
use Rattle.dis_meaning.specs.Step as meaning
use Rattle.dis_loading.specs.Growing.{lists_of}
use Rattle.dis_loading.proofs.names.enter.Given as goal

-- The lists so far and those that are left are those that stood there and all that come.
abbrev pub invariant-loop-table : goal.invariant-loop-table
invariant-loop-table l = lists_of l.lists ++ map meaning.names (drop l.table-index l.tables) ≡ lists_of l.fn.lists ++ map meaning.names l.tables
