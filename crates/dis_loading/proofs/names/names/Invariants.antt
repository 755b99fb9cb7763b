use Rattle.std.proofs.Common.{◌≡◌, ◌++◌, drop}
use Rattle.dis_meaning.specs.Step as meaning
use Rattle.dis_loading.proofs.names.names.Given as goal

-- The names so far and those that are left are the whole.
abbrev pub invariant-loop-import : goal.invariant-loop-import
invariant-loop-import l = l.names.items ++ meaning.names (drop l.import-index l.table) ≡ meaning.names l.table
