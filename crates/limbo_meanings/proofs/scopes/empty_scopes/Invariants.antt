use Rattle.std.proofs.Common.{◌≡◌}
use Rattle.limbo_meanings.specs.Names.{empty_each}
use Rattle.limbo_meanings.proofs.scopes.empty_scopes.Given as goal

abbrev pub invariant-loop : goal.invariant-loop
invariant-loop l = l.all.items ≡ empty_each l.counter
