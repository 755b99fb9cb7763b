use Rattle.std.proofs.Common.{◌≡◌, length}
use Rattle.limbo_type_names.proofs.standing.none_known.Given as goal

abbrev pub invariant-loop : goal.invariant-loop
invariant-loop l = length l.types.items ≡ l.counter
