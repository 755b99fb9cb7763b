use Rattle.limbo_types.specs.View.{view_ty}
use Rattle.limbo_context.specs.View.{view_body}
use Rattle.limbo_defining.specs.Defining.{taken}
use Rattle.limbo_defining.proofs.variable.declare_as.Goals as goal

pub returns-in-Err-Twice-clause-taken : goal.returns-in-Err-Twice-clause-taken
returns-in-Err-Twice-clause-taken c =
    taken (view_body c.args.body.now) c.args.name.now (view_ty c.args.t.now) (c.in-Err-Twice.ensures.twice c.in-Err-Twice.field-0-is)
