use Rattle.std.proofs.Common.{Some}
use Rattle.limbo_tree.specs.Stmts as tree
use Rattle.limbo_tree.specs.View as source
use Rattle.limbo_stmts.proofs.plain.raise_value.Goals as goal
use Rattle.limbo_stmt_values.specs.limbo_stating.FailsToState as fails
use Rattle.limbo_stmt_values.specs.limbo_stating.FailsToState.{FailsToState}
use Rattle.limbo_heads.specs.Around.{view_around}
use Rattle.limbo_stmts.specs.View.{view_point}
use Rattle.limbo_stmts.proofs.Told.{by_part}

pub returns-in-Err-clause-refused : goal.returns-in-Err-clause-refused
returns-in-Err-clause-refused c =
    by_part c.part_fault.result.why c.in-Err.fault.cause _ (FailsToState (view_around c.args.around.now) (view_point c.args.point.now)
    (tree.Raise (Some (source.view_expr c.args.e.now)))) c.part_fault.ensures
    (λ k h. fails.raised _ _ _ k (h c.args.point.now.catches)) c.in-Err.ensures.refused
