use Rattle.std.proofs.Common.{◌≡◌, drop}
use Rattle.limbo_paths.specs.Walking.{has_star}
use Rattle.limbo_paths.proofs.taking.has_star.Given as goal

abbrev pub invariant-loop-pattern : goal.invariant-loop-pattern
invariant-loop-pattern l = has_star (drop l.pattern-index l.patterns) ≡ has_star l.patterns
