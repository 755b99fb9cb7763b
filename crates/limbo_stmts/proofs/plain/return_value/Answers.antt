use Rattle.std.proofs.Common.{Some}
use Rattle.limbo_tree.specs.Stmts as tree
use Rattle.limbo_tree.specs.View as source
use Rattle.limbo_stmts.proofs.plain.return_value.Goals as goal
use Rattle.std.proofs.Common.{◌∙◌, ap}
use Rattle.limbo_typed.proofs.View.{view_stmt-Return, view_boxed-Some}
use Rattle.limbo_stmts.proofs.Told.{answer_fails}
use Rattle.limbo_typed.specs.Typed as typed
use Rattle.limbo_typed.specs.View.{view_expr}
use Rattle.limbo_typed.specs.declared.stmt.TStmt.TheVariants as make
use Rattle.limbo_stmt_values.specs.limbo_stating.FailsToState.{FailsToState}
use Rattle.limbo_stmt_values.specs.limbo_stating.Stating.{States}
use Rattle.limbo_heads.specs.Around.{view_around}
use Rattle.limbo_stmts.specs.View.{view_point}
use Rattle.limbo_stmts.proofs.Told.{by_part, made}

pub returns-in-Ok-clause-states : goal.returns-in-Ok-clause-states
returns-in-Ok-clause-states c =
    let h = c.in-Ok.ensures.answers c.args.point.now.catches in
    made c.boxed.result (make.Return (Some c.in-Ok.x)) (λ z. States (view_around c.args.around.now) (view_point c.args.point.now)
    (tree.Return (Some (source.view_expr c.args.e.now))) z
    (view_point record { context = c.args.point.now.context; body = c.returned.new.body; catches = c.args.point.now.catches })) (
      h.value,
      view_expr c.in-Ok.x.value,
      h.has,
      h.settles,
      view_stmt-Return (Some c.in-Ok.x) ∙ ap typed.Return (view_boxed-Some
          c.in-Ok.x),
    ) c.boxed.ensures.same

pub returns-in-Err-clause-refused : goal.returns-in-Err-clause-refused
returns-in-Err-clause-refused c =
    by_part c.part_fault.result.why c.in-Err.fault.cause _ (FailsToState (view_around c.args.around.now) (view_point c.args.point.now)
    (tree.Return (Some (source.view_expr c.args.e.now)))) c.part_fault.ensures
    (λ k h. answer_fails (view_around c.args.around.now) (view_point c.args.point.now) (source.view_expr c.args.e.now) k (h
    c.args.point.now.catches)) c.in-Err.ensures.refused
