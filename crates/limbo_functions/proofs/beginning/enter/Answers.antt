use Rattle.std.proofs.Common.{ap}
use Rattle.limbo_types.specs.View.{view_fn}
use Rattle.limbo_context.specs.declared.body.Body as code_body
use Rattle.limbo_context.specs.View.{view_context, view_body}
use Rattle.limbo_functions.specs.View.{definition_of}
use Rattle.limbo_functions.proofs.Parameters.{begins_here}
use Rattle.limbo_functions.proofs.beginning.enter.Goals as goal

pub returns-in-Ok-clause-begins : goal.returns-in-Ok-clause-begins
returns-in-Ok-clause-begins c =
    let p = c.args.point.now in
    begins_here (view_context p.context) p.body.scopes (definition_of c.args.function.now) (view_fn c.args.of.now) c.requires.header
    (view_body c.in-Ok.body) p.catches _ c.requires.outside.catches
    (ap (λ (b : code_body.Body). b.scopes) c.replace-scopes.ensures.value) c.in-Ok.ensures.begins
