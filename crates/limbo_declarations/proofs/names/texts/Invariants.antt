use Rattle.std.proofs.Common.{◌≡◌, ◌++◌, drop}
use Rattle.limbo_declarations.specs.Names.{names}
use Rattle.limbo_declarations.proofs.names.texts.Given as goal

abbrev pub invariant-loop-row : goal.invariant-loop-row
invariant-loop-row l = l.texts.items ++ names (drop l.row-index l.rows) ≡ names l.rows
