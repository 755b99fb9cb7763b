use Rattle.std.proofs.Common.{◌≡◌, true, sym, ap, subst}
use Rattle.limbo_types.specs.declared.ty.Ty.TheVariants as make
use Rattle.limbo_types.specs.Types.{Nothing}
use Rattle.limbo_types.specs.View.{view_ty}
use Rattle.limbo_types.proofs.View.{view_ty-Nothing}
use Rattle.limbo_typed.specs.declared.expr.TExpr as code_expr
use Rattle.limbo_typed.specs.Sound.{type_of, is_call}
use Rattle.limbo_typed.specs.View.{view_expr}
use Rattle.limbo_refusals.specs.Refusals.{Clash}
use Rattle.limbo_causes.specs.Causes.{Refused}
use Rattle.limbo_stmt_values.proofs.Told.{told_with, untrue, clash_same}
use Rattle.limbo_stmt_values.proofs.endings.unanswered.Goals as goal

pub returns-else-is_unanswered-clause-refused : goal.returns-else-is_unanswered-clause-refused
returns-else-is_unanswered-clause-refused c =
    told_with c.clash.result.cause (Refused (Clash (type_of (view_expr c.deref-else-is_unanswered.result.now)) (view_ty make.Nothing)))
    (Refused (Clash (type_of (view_expr c.args.x.value)) Nothing))
    ((is_call (view_expr c.args.x.value) ≡ true) × (type_of (view_expr c.args.x.value) ≡ Nothing) → ⊥) c.clash.ensures
    (clash_same _ _ _ _ (ap (λ (z : code_expr.TExpr). type_of (view_expr z)) c.deref-else-is_unanswered.ensures) view_ty-Nothing)
    (λ h.
    untrue c.is_unanswered.result _ c.if-is_unanswered.false c.is_unanswered.ensures
    (subst (λ (z : code_expr.TExpr). (is_call (view_expr z) ≡ true) × (type_of (view_expr z) ≡ Nothing)) (sym c.deref.ensures) h))
