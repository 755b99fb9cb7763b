use Rattle.std.proofs.Common.{sym, ap, ◌∙◌}
use Rattle.limbo_typed.specs.declared.expr.TExpr as code_expr
use Rattle.limbo_typed.specs.View.{view_expr}
use Rattle.limbo_typed.proofs.View.{view_boxed-None, view_boxed-Some}
use Rattle.limbo_folding.specs.Folding.{value_of}
use Rattle.limbo_stating.specs.Around.{always}
use Rattle.limbo_stmt_values.proofs.Rules.{no_condition, a_condition}
use Rattle.limbo_stmt_values.proofs.loops.loop_condition.Goals as goal

pub returns-then-branch : goal.returns-then-branch
returns-then-branch c =
    let e = ap (λ (z : code_expr.TExpr). always (value_of (view_expr z))) c.deref.ensures in
    view_boxed-None ∙ sym (no_condition (view_expr c.args.x.value) (sym e ∙ sym c.in_ok-always.ensures ∙ c.if-branch.true))

pub returns-else-branch : goal.returns-else-branch
returns-else-branch c =
    let e = ap (λ (z : code_expr.TExpr). always (value_of (view_expr z))) c.deref.ensures in
    view_boxed-Some c.args.x ∙ sym (a_condition (view_expr c.args.x.value) (sym e ∙ sym c.in_ok-always.ensures ∙ c.if-branch.false))
