use Rattle.limbo_tree.specs.View as source
use Rattle.limbo_tree.specs.View.{names_of}
use Rattle.limbo_types.specs.View.{view_fn}
use Rattle.limbo_context.specs.View.{view_context, view_body}
use Rattle.limbo_members.proofs.Untouched.{on_one}
use Rattle.limbo_interfaces.proofs.Added.{functions_add, functions_fail}
use Rattle.limbo_interfaces.proofs.functions.add_functions.Goals as goal

pub returns-in-Err-clause-refused : goal.returns-in-Err-clause-refused
returns-in-Err-clause-refused c =
    functions_fail c.args.interface (view_context c.args.context.now) (view_body c.args.body.now) (names_of c.args.names.now)
    (source.view_fn c.args.of.now) c.in-Err.fault.cause c.in-Err.ensures.refused

pub returns-in-Ok-clause-adds : goal.returns-in-Ok-clause-adds
returns-in-Ok-clause-adds c =
    on_one c.place_functions.result (λ placed. functions_add c.args.interface (view_context c.args.context.now) (view_body
    c.args.body.now) (names_of c.args.names.now)
    (source.view_fn c.args.of.now) (view_fn c.in-Ok.of) (view_context c.place_functions.new.context) (view_body
    c.place_functions.new.body) c.in-Ok.ensures.means placed) c.place_functions.ensures.placed
