use Rattle.std.proofs.Common.{ℕ, ◌<◌}
use Rattle.limbo_constant_values.specs.Valuing.{IsInitial}
use Rattle.limbo_constant_values.proofs.initial.check_initial.Given as goal

abbrev pub invariant-loop-number : goal.invariant-loop-number
invariant-loop-number l = (k : ℕ) → k < l.number → IsInitial l.naming k
