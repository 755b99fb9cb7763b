use Rattle.limbo_context.specs.View.{view_context, view_body}
use Rattle.limbo_typing.specs.Failing as failing
use Rattle.limbo_typing.specs.Failing.{FailsName}
use Rattle.limbo_exprs.proofs.Tested.{some_of, nothing_fails}
use Rattle.limbo_exprs.proofs.naming.named.Goals as goal

pub returns-in-Err-Unknown-clause-refused : goal.returns-in-Err-Unknown-clause-refused
returns-in-Err-Unknown-clause-refused c = failing.unseen (c.in-Err-Unknown.ensures.unknown c.in-Err-Unknown.field-0-is)

pub returns-in-Err-Nothing-clause-refused : goal.returns-in-Err-Nothing-clause-refused
returns-in-Err-Nothing-clause-refused c =
    let m = some_of _ (c.in-Err-Nothing.ensures.seen c.in-Err-Nothing.field-0-is) in
    nothing_fails c.clash_of.result c.refused.result.cause
    (FailsName (view_context c.args.context.now) (view_body c.args.body.now) c.args.text.now) c.refused.ensures c.clash_of.ensures
    (failing.no_thing m.0 m.1 (c.in-Err-Nothing.ensures.nothing c.in-Err-Nothing.field-0-is))
