use Rattle.limbo_tree.specs.Types as written
use Rattle.limbo_tree.specs.View as source
use Rattle.limbo_types.specs.Types as types
use Rattle.limbo_types.specs.View.{view_tys}
use Rattle.limbo_context.specs.View.{view_context, view_body}
use Rattle.limbo_locals.proofs.Rules.{by_rule}
use Rattle.limbo_locals.proofs.Parts.{forbidden_fails}
use Rattle.limbo_locals.proofs.exceptions.values_of.Goals as goal

pub returns-in-Ok-clause-refused : goal.returns-in-Ok-clause-refused
returns-in-Ok-clause-refused c =
    by_rule c.permit_values.result c.permit_values.ensures.refused (λ f h. forbidden_fails (view_context c.args.context.now) (view_body
    c.args.body.now) (written.Tuple (source.view_types c.args.of.now)) (types.Tuple (view_tys c.in-Ok.values.items)) f
    c.in-Ok.ensures.means h)
