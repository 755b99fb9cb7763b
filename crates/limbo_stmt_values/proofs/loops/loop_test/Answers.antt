use Rattle.limbo_typed.specs.View.{view_expr}
use Rattle.limbo_stmt_values.proofs.loops.loop_test.Goals as goal

pub returns-in_ok-loop_condition-in-Ok-clause-tests : goal.returns-in_ok-loop_condition-in-Ok-clause-tests
returns-in_ok-loop_condition-in-Ok-clause-tests c = λ n.
    (view_expr c.in-Ok.x.value, c.in-Ok.ensures.tests n, c.in_ok-loop_condition-in-Ok.ensures)
