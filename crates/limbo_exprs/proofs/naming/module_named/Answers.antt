use Rattle.std.proofs.Common.{◌≡◌, None, subst}
use Rattle.limbo_things.specs.declared.thing.Thing as code_thing
use Rattle.limbo_things.specs.ThingView.{view_thing}
use Rattle.limbo_causes.specs.Causes.{FailsBy}
use Rattle.limbo_context.specs.View.{view_context, view_body}
use Rattle.limbo_typing.specs.Failing.{unfit}
use Rattle.limbo_exprs.specs.Parts.{module_named_by}
use Rattle.limbo_exprs.proofs.Rules.{module_name_fails, no_module_fails}
use Rattle.limbo_exprs.proofs.Tested.{no_named_module}
use Rattle.limbo_exprs.proofs.naming.module_named.Goals as goal

pub returns-in-Err-clause-refused : goal.returns-in-Err-clause-refused
returns-in-Err-clause-refused c =
    module_name_fails (view_context c.args.context.now) (view_body c.args.body.now) c.in-Err.fault.cause c.args.text.now
    c.in-Err.ensures.refused

pub returns-clause-refused : goal.returns-clause-refused
returns-clause-refused c =
    no_module_fails (view_context c.args.context.now) (view_body c.args.body.now) c.no_module.result.cause c.args.text.now
    (view_thing c.in-Ok.thing.value) c.in-Ok.ensures.found
    (no_named_module (view_thing c.in-Ok.thing.value)
    (subst (λ (t : code_thing.Thing). None ≡ module_named_by (view_thing t)) c.deref.ensures c.in-None.ensures))
    (subst (λ (t : code_thing.Thing). FailsBy c.no_module.result.cause (λ k. k ≡ unfit (view_thing t))) c.deref-in-None.ensures
    c.no_module.ensures)
