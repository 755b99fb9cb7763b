use Rattle.std.proofs.Common.{subst}
use Rattle.limbo_tree.specs.View as source
use Rattle.limbo_types.specs.View.{view_ty}
use Rattle.limbo_typed.specs.declared.expr.TExpr as code_expr
use Rattle.limbo_typed.specs.View.{view_expr}
use Rattle.limbo_context.specs.View.{view_context, view_body}
use Rattle.limbo_stmt_values.specs.Whys.{FailsFor}
use Rattle.limbo_stmt_values.specs.Labels.{IsNoLabel}
use Rattle.limbo_stmt_values.proofs.Told.{if_err}
use Rattle.limbo_stmt_values.proofs.Rules.{label_unvalued, label_unfit}
use Rattle.limbo_stmt_values.proofs.labels.label.Goals as goal

pub returns-in-Ok-clause-refused : goal.returns-in-Ok-clause-refused
returns-in-Ok-clause-refused c =
    if_err c.label_of.result _ _
    (λ f h.
    label_unfit (view_ty c.args.t.now) (view_context c.args.context.now) (view_body c.args.body.now) (source.view_expr c.args.e.now) f.why
    (view_expr c.in-Ok.x.value) (view_body c.value.new.body) c.in-Ok.ensures.typed
    (subst (λ (z : code_expr.TExpr). FailsFor f.why (IsNoLabel (view_ty c.args.t.now) (view_expr z))) c.deref.ensures h))
    c.label_of.ensures.refused

pub returns-in-Err-clause-refused : goal.returns-in-Err-clause-refused
returns-in-Err-clause-refused c =
    label_unvalued (view_ty c.args.t.now) (view_context c.args.context.now) (view_body c.args.body.now) (source.view_expr c.args.e.now)
    c.in-Err.fault.cause c.part_fault.result.why c.part_fault.ensures c.in-Err.ensures.refused
