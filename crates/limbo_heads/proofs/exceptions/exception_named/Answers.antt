use Rattle.std.proofs.Common.{sym, subst}
use Rattle.limbo_things.specs.Things.{NameIs}
use Rattle.limbo_things.specs.ThingView.{view_thing}
use Rattle.limbo_things.specs.declared.thing.Thing as code_thing
use Rattle.limbo_context.specs.View.{view_context, view_body}
use Rattle.limbo_heads.proofs.Excepting.{another_thing, unseen_name, no_thing}
use Rattle.limbo_heads.proofs.exceptions.exception_named.Goals as goal

pub returns-in-Ok-clause-refused : goal.returns-in-Ok-clause-refused
returns-in-Ok-clause-refused c =
    another_thing (view_context c.args.context.now) (view_body c.args.body.now) c.args.text.now (view_thing c.deref.result.now)
    c.in-Err.fault c.refused.result.cause c.refused.ensures
    (subst (λ (t : code_thing.Thing). NameIs (view_context c.args.context.now) (view_body c.args.body.now) c.args.text.now (view_thing t))
    (sym c.deref.ensures) c.in-Ok.ensures.found) c.in-Err.ensures.another c.in-Err.ensures.refused

pub returns-in-Err-Unknown-clause-refused : goal.returns-in-Err-Unknown-clause-refused
returns-in-Err-Unknown-clause-refused c =
    unseen_name (view_context c.args.context.now) (view_body c.args.body.now) c.args.text.now
    (c.in-Err-Unknown.ensures.unknown c.in-Err-Unknown.field-0-is)

pub returns-clause-refused : goal.returns-clause-refused
returns-clause-refused c =
    no_thing (view_context c.args.context.now) (view_body c.args.body.now) c.args.text.now c.clash_of.result
    c.refused-in-Err-Nothing.result.cause c.refused-in-Err-Nothing.ensures c.clash_of.ensures
    (c.in-Err-Nothing.ensures.seen c.in-Err-Nothing.field-0-is) (c.in-Err-Nothing.ensures.nothing c.in-Err-Nothing.field-0-is)
