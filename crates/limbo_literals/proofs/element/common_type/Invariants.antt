use Rattle.std.proofs.Common.{◌≡◌, Some, None, option_map, map, take}
use Rattle.limbo_types.specs.View.{view_ty}
use Rattle.limbo_typed.specs.declared.expr.TExpr as code_expr
use Rattle.limbo_literals.proofs.Elements.{so_far}
use Rattle.limbo_literals.proofs.element.common_type.Given as goal

abbrev pub invariant-loop-element : goal.invariant-loop-element
invariant-loop-element l =
    so_far None (map (λ (e : code_expr.TExpr). view_ty e.ty) (take l.element-index l.elements)) ≡ Some (option_map view_ty l.found)
