use Rattle.std.proofs.Common.{◌≤◌}
use Rattle.limbo_modules.proofs.refusing.declaration_of_adt.Given as goal

abbrev pub invariant-loop-number : goal.invariant-loop-number
invariant-loop-number l = l.before ≤ l.number
