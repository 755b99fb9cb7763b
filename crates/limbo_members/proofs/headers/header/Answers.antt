use Rattle.std.proofs.Common.{arith}
use Rattle.std.proofs.lemmas.Grind.{common_steps}
use Rattle.limbo_tree.specs.View as source
use Rattle.limbo_causes.specs.Causes.{FailsBy}
use Rattle.limbo_context.specs.View.{view_context, view_body}
use Rattle.limbo_locals.specs.limbo_local.Local.{argument_types}
use Rattle.limbo_locals.specs.limbo_local.Failing.{FailsTypes}
use Rattle.limbo_members.proofs.Permitted.{arguments_fail, the_answer_fails}
use Rattle.limbo_members.proofs.headers.header.Goals as goal

pub returns-in-Err-clause-refused : goal.returns-in-Err-clause-refused
returns-in-Err-clause-refused c =
    let h : FailsBy c.in-Err.fault.cause (FailsTypes (view_context c.args.context.now) (view_body c.args.body.now) (argument_types
    (source.view_fn c.args.f.now).params)) = grind (arith, common_steps) in
    arguments_fail (view_context c.args.context.now) (view_body c.args.body.now) (source.view_fn c.args.f.now) c.in-Err.fault.cause h

pub returns-in-Err-answer-clause-refused : goal.returns-in-Err-answer-clause-refused
returns-in-Err-answer-clause-refused c =
    the_answer_fails (view_context c.args.context.now) (view_body c.args.body.now) (source.view_fn c.args.f.now)
    c.in-Err-answer.fault.cause c.in-Err-answer.ensures.refused
