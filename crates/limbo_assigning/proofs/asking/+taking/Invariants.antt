use Rattle.std.proofs.Common.{◌≡◌, drop, map}
use Rattle.limbo_types.specs.View.{view_tys}
use Rattle.limbo_typed.specs.View.{view_pattern, patterns_of}
use Rattle.limbo_assigning.specs.Choosing.{take_each}
use Rattle.limbo_assigning.proofs.asking.+taking.Given as goal

abbrev pub invariant-take_each-loop-pattern : goal.invariant-take_each-loop-pattern
invariant-take_each-loop-pattern l =
    take_each (patterns_of (map view_pattern (drop l.pattern-index l.patterns))) (view_tys l.rest)
    ≡ take_each (patterns_of (map view_pattern l.patterns)) (view_tys l.parts)
