use Rattle.std.proofs.Common.{◌≡◌, map, take}
use Rattle.limbo_types.specs.View.{view_ty}
use Rattle.limbo_typed.specs.View.{view_pattern}
use Rattle.limbo_assigning.specs.Assigning.{type_in}
use Rattle.limbo_assigning.proofs.assigning.+telling.Given as goal

abbrev pub invariant-types_in-loop-pattern : goal.invariant-types_in-loop-pattern
invariant-types_in-loop-pattern l = map view_ty l.types.items ≡ map (λ p. type_in (view_pattern p)) (take l.pattern-index l.patterns)
