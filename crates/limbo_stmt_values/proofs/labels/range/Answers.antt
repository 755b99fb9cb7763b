use Rattle.std.proofs.Common.{refl, sym, subst}
use Rattle.limbo_tree.specs.View as source
use Rattle.limbo_tree.specs.Stmts as stmts
use Rattle.limbo_types.specs.View.{view_ty}
use Rattle.limbo_typed.specs.declared.stmt.CasePattern.{CasePattern}
use Rattle.limbo_context.specs.View.{view_context, view_body}
use Rattle.limbo_stating.specs.Cases.{IsPattern}
use Rattle.limbo_stmt_values.specs.Leading.{point}
use Rattle.limbo_stmt_values.proofs.Told.{if_ok, if_err}
use Rattle.limbo_stmt_values.proofs.Rules.{from_fails, to_fails}
use Rattle.limbo_stmt_values.proofs.labels.range.Goals as goal

pub returns-in-Ok-clause-pattern : goal.returns-in-Ok-clause-pattern
returns-in-Ok-clause-pattern c =
    if_ok c.up_to.result _ _
    (λ z h n.
    subst
    (λ (y : CasePattern).
    IsPattern (view_ty c.args.t.now) (point (view_context c.args.context.now) (view_body c.args.body.now) n)
    (stmts.Range (source.view_expr c.args.from.now) (source.view_expr c.args.to.now)) y
    (point (view_context c.args.context.now) (view_body c.up_to.new.body) n)) (sym h.1)
    (c.in-Ok.low, h.0, point (view_context c.args.context.now) (view_body c.label.new.body) n, c.in-Ok.ensures.labels n, h.2 n, refl))
    c.up_to.ensures.pattern

pub returns-in-Ok-clause-refused : goal.returns-in-Ok-clause-refused
returns-in-Ok-clause-refused c =
    if_err c.up_to.result _ _
    (λ f g.
    to_fails (view_ty c.args.t.now) (view_context c.args.context.now) (view_body c.args.body.now) (source.view_expr c.args.from.now)
    (source.view_expr c.args.to.now) f.why c.in-Ok.low (view_body c.label.new.body) c.in-Ok.ensures.labels g)
    c.up_to.ensures.refused

pub returns-in-Err-clause-refused : goal.returns-in-Err-clause-refused
returns-in-Err-clause-refused c =
    from_fails (view_ty c.args.t.now) (view_context c.args.context.now) (view_body c.args.body.now) (source.view_expr c.args.from.now)
    (source.view_expr c.args.to.now) c.in-Err.fault.why c.in-Err.ensures.refused
