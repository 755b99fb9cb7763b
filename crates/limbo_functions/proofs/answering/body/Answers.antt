use Rattle.limbo_tree.specs.View as source
use Rattle.limbo_types.specs.View.{view_fn}
use Rattle.limbo_typed.specs.View.{view_stmt}
use Rattle.limbo_stmt_values.specs.limbo_stating.Functions.{around}
use Rattle.limbo_stmts.specs.View.{view_point}
use Rattle.limbo_stmt_values.proofs.Told.{if_err}
use Rattle.limbo_functions.proofs.Statements.{block_fails, answer_lacks}
use Rattle.limbo_functions.proofs.answering.body.Goals as goal

pub returns-in-Err-clause-refused : goal.returns-in-Err-clause-refused
returns-in-Err-clause-refused c =
    let h = c.in-Err.ensures.refused in
    block_fails (around c.args.module_name.now (view_fn c.args.of.now)) (view_point c.args.point.now)
    (source.view_block c.args.function.now.body) c.in-Err.fault.why (rw c.new.ensures.items at h)

pub returns-clause-refused : goal.returns-clause-refused
returns-clause-refused c =
    let h = c.in-Ok.ensures.states in
    let states = rw c.new.ensures.items at h in
    if_err c.answered.result _ _
    (λ e g. answer_lacks (around c.args.module_name.now (view_fn c.args.of.now)) (view_point c.args.point.now)
    (source.view_block c.args.function.now.body) e.why (view_stmt c.in-Ok.z.value) _ states g)
    c.answered.ensures.refused
