use Rattle.std.proofs.Common.{◌≡◌, map, drop}
use Rattle.limbo_types.specs.View.{view_ty, view_tys}
use Rattle.limbo_typed.specs.View.{view_pattern, patterns_of}
use Rattle.limbo_assigning.specs.Choosing.{ask_each}
use Rattle.limbo_assigning.proofs.Fronts.{types_front}
use Rattle.limbo_assigning.proofs.asking.+asking.Given as goal

abbrev pub invariant-ask_each-loop-pattern : goal.invariant-ask_each-loop-pattern
invariant-ask_each-loop-pattern l =
    ask_each (patterns_of (map view_pattern l.patterns)) (view_tys l.parts)
    ≡ types_front (map view_ty l.asked.items) (ask_each (patterns_of (map view_pattern (drop l.pattern-index l.patterns))) (view_tys l.rest))
