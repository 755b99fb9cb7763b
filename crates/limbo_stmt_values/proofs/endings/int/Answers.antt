use Rattle.std.proofs.Common.{◌≢◌, ap, ◌∙◌}
use Rattle.limbo_types.specs.declared.ty.Ty.TheVariants as make
use Rattle.limbo_types.specs.Types.{Int}
use Rattle.limbo_types.specs.View.{view_ty}
use Rattle.limbo_types.proofs.View.{view_ty-Int}
use Rattle.limbo_typed.specs.declared.expr.TExpr as code_expr
use Rattle.limbo_typed.specs.Sound.{type_of}
use Rattle.limbo_typed.specs.View.{view_expr}
use Rattle.limbo_refusals.specs.Refusals.{Clash}
use Rattle.limbo_causes.specs.Causes.{Refused}
use Rattle.limbo_stmt_values.proofs.Told.{told_with, untrue, clash_same}
use Rattle.limbo_stmt_values.proofs.endings.int.Goals as goal

pub returns-else-has_int-clause-refused : goal.returns-else-has_int-clause-refused
returns-else-has_int-clause-refused c =
    told_with c.clash.result.cause (Refused (Clash (type_of (view_expr c.deref-else-has_int.result.now)) (view_ty make.Int)))
    (Refused (Clash (type_of (view_expr c.args.x.value)) Int)) (type_of (view_expr c.args.x.value) ≢ Int) c.clash.ensures
    (clash_same _ _ _ _ (ap (λ (z : code_expr.TExpr). type_of (view_expr z)) c.deref-else-has_int.ensures) view_ty-Int)
    (λ e.
    untrue c.has_int.result _ c.if-has_int.false c.has_int.ensures
    (ap (λ (z : code_expr.TExpr). type_of (view_expr z)) c.deref.ensures ∙ e))
