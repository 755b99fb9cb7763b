use Rattle.std.proofs.Common.{sym, ap, subst}
use Rattle.limbo_tree.specs.Exprs as tree
use Rattle.limbo_tree.specs.View as source
use Rattle.limbo_causes.specs.Causes.{nothing}
use Rattle.limbo_context.specs.View.{view_context, view_body}
use Rattle.limbo_typing.specs.Failing as failing
use Rattle.limbo_typing.specs.Failing.{FailsForm}
use Rattle.limbo_exprs.proofs.Tested.{nothing_fails}
use Rattle.limbo_exprs.proofs.arrays.channel_of.Goals as goal

pub returns-in-Some-clause-refused : goal.returns-in-Some-clause-refused
returns-in-Some-clause-refused c =
    nothing_fails c.clash_of.result c.refused.result.cause _ c.refused.ensures c.clash_of.ensures
    (subst
    (λ (n : tree.Part). FailsForm (view_context c.args.context.now) (view_body c.args.body.now)
    (tree.Channel n (source.view_type c.args.element.now)) nothing) (sym (ap source.view_part c.in-Some.is))
    (failing.with_room (view_body c.args.body.now) (source.view_expr c.in-Some.field-0.value) (source.view_type c.args.element.now)))
