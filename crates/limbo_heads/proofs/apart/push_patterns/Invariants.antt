use Rattle.std.proofs.Common.{◌≡◌, ◌++◌, map, take}
use Rattle.limbo_heads.proofs.apart.push_patterns.Given as goal

abbrev pub invariant-loop-pattern : goal.invariant-loop-pattern
invariant-loop-pattern l =
    map (λ p. p.now) l.all.items ≡ map (λ p. p.now) l.initial.all.items ++ take l.pattern-index l.patterns
