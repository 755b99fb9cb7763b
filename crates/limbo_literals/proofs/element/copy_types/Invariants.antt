use Rattle.std.proofs.Common.{◌≡◌, map, take}
use Rattle.limbo_types.specs.View.{view_ty}
use Rattle.limbo_typed.specs.declared.expr.TExpr as code_expr
use Rattle.limbo_literals.proofs.element.copy_types.Given as goal

abbrev pub invariant-loop-expr : goal.invariant-loop-expr
invariant-loop-expr l = map view_ty l.types.items ≡ map (λ (e : code_expr.TExpr). view_ty e.ty) (take l.expr-index l.exprs)
