use Rattle.std.proofs.Common.{map, take}
use Rattle.limbo_types.specs.View.{view_ty}
use Rattle.limbo_typed.specs.Sound.{Each}
use Rattle.limbo_context.specs.View.{view_context}
use Rattle.limbo_permits.specs.Permits.{Permits}
use Rattle.limbo_declared_types.proofs.asking.permit_each.Given as goal

abbrev pub invariant-loop-of : goal.invariant-loop-of
invariant-loop-of l = Each (λ t. Permits (view_context l.context) t) (map view_ty (take l.of-index l.types))
