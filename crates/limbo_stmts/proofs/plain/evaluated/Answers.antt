use Rattle.limbo_tree.specs.Stmts as tree
use Rattle.limbo_tree.specs.View as source
use Rattle.limbo_stmts.proofs.plain.evaluated.Goals as goal
use Rattle.limbo_typed.proofs.View.{view_stmt-Eval}
use Rattle.limbo_typed.specs.View.{view_expr}
use Rattle.limbo_typed.specs.declared.stmt.TStmt.TheVariants as make
use Rattle.limbo_stmt_values.specs.limbo_stating.FailsToState as fails
use Rattle.limbo_stmt_values.specs.limbo_stating.FailsToState.{FailsToState}
use Rattle.limbo_stmt_values.specs.limbo_stating.Stating.{States}
use Rattle.limbo_heads.specs.Around.{view_around}
use Rattle.limbo_stmts.specs.View.{view_point}
use Rattle.limbo_stmts.proofs.Told.{by_part, made}

pub returns-in-Err-clause-refused : goal.returns-in-Err-clause-refused
returns-in-Err-clause-refused c =
    by_part c.part_fault.result.why c.in-Err.fault.cause _ (FailsToState (view_around c.args.around.now) (view_point c.args.point.now)
    (tree.Eval (source.view_expr c.args.e.now))) c.part_fault.ensures
    (λ k h. fails.evaluated _ _ _ k (h c.args.point.now.catches)) c.in-Err.ensures.refused

pub returns-in-Ok-clause-states : goal.returns-in-Ok-clause-states
returns-in-Ok-clause-states c =
    made c.boxed.result (make.Eval c.in-Ok.x) (λ z. States (view_around c.args.around.now) (view_point c.args.point.now) (tree.Eval
    (source.view_expr c.args.e.now)) z
    (view_point record { context = c.args.point.now.context; body = c.evaluate.new.body; catches = c.args.point.now.catches }))
    (view_expr c.in-Ok.x.value, c.in-Ok.ensures.evaluates c.args.point.now.catches, view_stmt-Eval c.in-Ok.x) c.boxed.ensures.same
