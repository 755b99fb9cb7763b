use Rattle.limbo_tree.specs.View as source
use Rattle.limbo_tree.specs.View.{names_of}
use Rattle.limbo_types.specs.View.{view_ty}
use Rattle.limbo_context.specs.View.{view_context, view_body}
use Rattle.limbo_interfaces.proofs.Added.{variables_add, variables_fail}
use Rattle.limbo_interfaces.proofs.adding.add_variables.Goals as goal

pub returns-in-Err-clause-refused : goal.returns-in-Err-clause-refused
returns-in-Err-clause-refused c =
    variables_fail c.args.interface (view_context c.args.context.now) (view_body c.args.body.now) (names_of c.args.names.now)
    (source.view_type c.args.of.now) c.in-Err.fault.cause c.in-Err.ensures.refused

pub returns-in-Ok-clause-adds : goal.returns-in-Ok-clause-adds
returns-in-Ok-clause-adds c =
    variables_add c.args.interface (view_context c.args.context.now) (view_body c.args.body.now) (names_of c.args.names.now)
    (source.view_type c.args.of.now)
    (view_ty c.in-Ok._of.value) c.in-Ok.ensures.means c.requires.begun
