use Rattle.std.proofs.Common.{◌≡◌, take}
use Rattle.std.specs.Prelude.{count_by}
use Rattle.limbo_stmt_values.specs.limbo_stating.Cases.{is_star}
use Rattle.limbo_heads.proofs.apart.stars.Given as goal

abbrev pub invariant-loop-pattern : goal.invariant-loop-pattern
invariant-loop-pattern l = l.count ≡ count_by (λ p. is_star p.now) (take l.pattern-index l.patterns)
