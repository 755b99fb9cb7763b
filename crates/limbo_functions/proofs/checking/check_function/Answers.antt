use Rattle.std.proofs.Common.{ap, ◌∙◌}
use Rattle.limbo_typed.specs.View.{view_stmts, view_function}
use Rattle.limbo_stmt_values.specs.limbo_local.Points.{Point}
use Rattle.limbo_context.specs.View.{view_context, view_callee}
use Rattle.limbo_stmts.specs.View.{view_point}
use Rattle.limbo_stmt_values.proofs.Told.{if_ok}
use Rattle.limbo_functions.specs.View.{definition_of}
use Rattle.limbo_functions.proofs.Whole.{whatever, left_again, is_function, heading_fails, body_fails}
use Rattle.limbo_functions.proofs.checking.check_function.Goals as goal

pub returns-in-Err-clause-refused : goal.returns-in-Err-clause-refused
returns-in-Err-clause-refused c =
    heading_fails c.args.module_name.now c.args.point.now.body.scopes (view_callee c.args.callee.now)
    (definition_of c.args.function.now) (view_context c.args.point.now.context) c.in-Err.fault.why c.in-Err.ensures.refused

pub returns-in-Err-body-clause-refused : goal.returns-in-Err-body-clause-refused
returns-in-Err-body-clause-refused c =
    body_fails c.args.module_name.now c.args.point.now.body.scopes (view_callee c.args.callee.now)
    (definition_of c.args.function.now) (view_context c.args.point.now.context) c.in-Err-body.fault.why (view_point c.begin.new.point)
    c.in-Ok.ensures.begins c.in-Err-body.ensures.refused

pub returns-in-Ok-body-clause-function : goal.returns-in-Ok-body-clause-function
returns-in-Ok-body-clause-function c =
    if_ok c.close.result _ _
    (λ g made. is_function c.args.module_name.now c.args.point.now.body.scopes (view_callee c.args.callee.now)
    (definition_of c.args.function.now) (view_context c.args.point.now.context) (view_point c.begin.new.point) (view_point c.body.new.point)
    (view_stmts c.in-Ok-body.statements.items) (view_function g) (view_context c.close.new.point.context)
    c.in-Ok.ensures.begins c.in-Ok-body.ensures.body made (ap (λ (p : Point). p.context) c.close.ensures.left))
    c.close.ensures.function

pub returns-in-Ok-body-clause-same_scopes : goal.returns-in-Ok-body-clause-same_scopes
returns-in-Ok-body-clause-same_scopes c =
    whatever c.close.result _
    (ap (λ (p : Point). p.body.scopes) c.close.ensures.left
    ∙ left_again c.args.module_name.now c.args.point.now.body.scopes (view_callee c.args.callee.now)
    (definition_of c.args.function.now) (view_context c.args.point.now.context) (view_point c.begin.new.point) (view_point c.body.new.point)
    (view_stmts c.in-Ok-body.statements.items) c.in-Ok.ensures.begins c.in-Ok-body.ensures.body)
