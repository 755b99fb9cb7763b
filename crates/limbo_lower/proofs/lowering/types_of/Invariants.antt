use Rattle.std.proofs.Common.{◌≡◌, map, take}
use Rattle.limbo_types.specs.View.{view_ty}
use Rattle.limbo_typed.specs.View.{view_var}
use Rattle.limbo_lower.proofs.lowering.types_of.Given as goal

abbrev pub invariant-loop-variable : goal.invariant-loop-variable
invariant-loop-variable l = map view_ty l.types.items ≡ map (λ v. v.ty) (map view_var (take l.variable-index l.variables))
