use Rattle.std.proofs.Common.{subst}
use Rattle.limbo_tree.specs.View as source
use Rattle.limbo_typed.specs.declared.expr.TExpr as code_expr
use Rattle.limbo_typed.specs.View.{view_expr}
use Rattle.limbo_refusals.specs.Refusals.{NoneIs}
use Rattle.limbo_context.specs.View.{view_context, view_body}
use Rattle.limbo_stating.specs.Picks.{IsPicked}
use Rattle.limbo_stmt_values.proofs.Rules.{pick_unvalued, pick_none}
use Rattle.limbo_stmt_values.proofs.picks.pick_value.Goals as goal

pub returns-in-Err-clause-refused : goal.returns-in-Err-clause-refused
returns-in-Err-clause-refused c =
    pick_unvalued (view_context c.args.context.now) (view_body c.args.body.now) (source.view_expr c.args.e.now) c.in-Err.fault.cause
    c.part_fault.result.why c.part_fault.ensures c.in-Err.ensures.refused

pub returns-in-None-clause-refused : goal.returns-in-None-clause-refused
returns-in-None-clause-refused c =
    pick_none (view_context c.args.context.now) (view_body c.args.body.now) (source.view_expr c.args.e.now)
    (view_expr c.in-Ok.value.value) (view_body c.value.new.body) c.in-Ok.ensures.typed
    (subst (λ (z : code_expr.TExpr). NoneIs (IsPicked (view_context c.args.context.now) (view_expr z))) c.deref.ensures
    c.in-None.ensures.none)
