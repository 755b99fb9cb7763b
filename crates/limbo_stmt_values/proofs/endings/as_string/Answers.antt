use Rattle.std.proofs.Common.{sym, ap, subst}
use Rattle.limbo_types.specs.declared.ty.Ty.TheVariants as make
use Rattle.limbo_types.specs.Types.{Ty, Chars}
use Rattle.limbo_types.specs.View.{view_ty}
use Rattle.limbo_types.proofs.View.{view_ty-Chars}
use Rattle.limbo_typed.specs.declared.expr.TExpr as code_expr
use Rattle.limbo_typed.specs.View.{view_expr}
use Rattle.limbo_standing.specs.Standing.{Settles}
use Rattle.limbo_refusals.specs.Refusals.{NoneIs}
use Rattle.limbo_causes.specs.Causes.{Refused}
use Rattle.limbo_exprs.specs.limbo_value_forms.Forms.{itself}
use Rattle.limbo_stmt_values.proofs.Told.{told_with}
use Rattle.limbo_stmt_values.proofs.endings.as_string.Goals as goal

pub returns-then-branch-clause-settled : goal.returns-then-branch-clause-settled
returns-then-branch-clause-settled c =
    subst (λ (t : Ty). Settles t (view_expr c.args.x.value) (view_expr c.settle.new.value)) view_ty-Chars
    (subst (λ (z : code_expr.TExpr). Settles (view_ty make.Chars) (view_expr z) (view_expr c.settle.new.value)) c.deref_mut.ensures.value
    (c.in_ok-settle.ensures.settled c.if-branch.true))

pub returns-else-branch-clause-refused : goal.returns-else-branch-clause-refused
returns-else-branch-clause-refused c =
    told_with c.misfit-fault.result.cause (Refused (itself (view_expr c.deref.result.now))) (Refused (itself (view_expr c.args.x.value)))
    (NoneIs (Settles Chars (view_expr c.args.x.value))) c.misfit-fault.ensures
    (ap (λ (z : code_expr.TExpr). Refused (itself (view_expr z))) c.deref.ensures)
    (λ y s.
    c.in_ok-settle.ensures.refused c.if-branch.false y
    (subst (λ (z : code_expr.TExpr). Settles (view_ty make.Chars) (view_expr z) y) (sym c.deref_mut.ensures.value)
    (subst (λ (t : Ty). Settles t (view_expr c.args.x.value) y) (sym view_ty-Chars) s)))
