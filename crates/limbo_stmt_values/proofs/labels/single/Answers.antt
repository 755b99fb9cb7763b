use Rattle.limbo_tree.specs.View as source
use Rattle.limbo_types.specs.View.{view_ty}
use Rattle.limbo_context.specs.View.{view_context, view_body}
use Rattle.limbo_stmt_values.proofs.Rules.{single_fails}
use Rattle.limbo_stmt_values.proofs.labels.single.Goals as goal

pub returns-in-Err-clause-refused : goal.returns-in-Err-clause-refused
returns-in-Err-clause-refused c =
    single_fails (view_ty c.args.t.now) (view_context c.args.context.now) (view_body c.args.body.now) (source.view_expr c.args.e.now)
    c.in-Err.fault.why c.in-Err.ensures.refused
