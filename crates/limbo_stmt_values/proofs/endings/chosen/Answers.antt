use Rattle.std.proofs.Common.{sym, subst, ap, ◌∙◌}
use Rattle.limbo_types.specs.Types.{Ty}
use Rattle.limbo_types.specs.View.{view_ty}
use Rattle.limbo_typed.specs.declared.expr.TExpr as code_expr
use Rattle.limbo_typed.specs.Sound.{type_of, IsCased}
use Rattle.limbo_typed.specs.View.{view_expr}
use Rattle.limbo_causes.specs.Causes.{Refused}
use Rattle.limbo_causes.proofs.Telling.{fails_weaker}
use Rattle.limbo_refusals.specs.Refusals.{NoneIs}
use Rattle.limbo_exprs.specs.limbo_value_forms.Forms.{itself}
use Rattle.limbo_stating.specs.Cases.{IsChosenFrom, as_it_is, as_string}
use Rattle.limbo_stmt_values.proofs.Told.{type_is, told_with, if_ok, if_err}
use Rattle.limbo_stmt_values.proofs.Rules.{nil_not_cased, chosen_not, chosen_not_at_all}
use Rattle.limbo_stmt_values.proofs.endings.chosen.Goals as goal

pub returns-in-AsItIs-clause-chosen : goal.returns-in-AsItIs-clause-chosen
returns-in-AsItIs-clause-chosen c =
    as_it_is
    (subst (λ (t : Ty). IsCased t) (ap (λ (z : code_expr.TExpr). view_ty z.ty) c.deref.ensures ∙ type_is c.args.x.value)
    c.in-AsItIs.ensures)

pub returns-in-AsString-clause-chosen : goal.returns-in-AsString-clause-chosen
returns-in-AsString-clause-chosen c =
    let e =
    sym (ap (λ (z : code_expr.TExpr). view_ty z.ty) c.deref.ensures ∙ type_is c.args.x.value) ∙ c.in-AsString.ensures in
    if_ok c.as_string.result _ _ (λ y s. as_string (view_expr y.value) e s) c.as_string.ensures.settled

pub returns-in-AsString-clause-refused : goal.returns-in-AsString-clause-refused
returns-in-AsString-clause-refused c =
    let e =
    sym (ap (λ (z : code_expr.TExpr). view_ty z.ty) c.deref.ensures ∙ type_is c.args.x.value) ∙ c.in-AsString.ensures in
    if_err c.as_string.result _ _
    (λ f g.
    fails_weaker f.cause _ _
    (λ k h. (h.0, chosen_not (view_expr c.args.x.value) (nil_not_cased (type_of (view_expr c.args.x.value)) e) h.1)) g)
    c.as_string.ensures.refused

pub returns-in-Not-clause-refused : goal.returns-in-Not-clause-refused
returns-in-Not-clause-refused c =
    let e = ap (λ (z : code_expr.TExpr). view_ty z.ty) c.deref.ensures ∙ type_is c.args.x.value in
    let n = c.in-Not.ensures in
    told_with c.misfit.result.cause (Refused (itself (view_expr c.deref-in-Not.result.now))) (Refused (itself (view_expr c.args.x.value)))
    (NoneIs (IsChosenFrom (view_expr c.args.x.value))) c.misfit.ensures
    (ap (λ (z : code_expr.TExpr). Refused (itself (view_expr z))) c.deref-in-Not.ensures)
    (chosen_not_at_all (view_expr c.args.x.value) (λ h. n.0 (subst (λ (t : Ty). IsCased t) (sym e) h)) (λ h. n.1 (e ∙ h)))
