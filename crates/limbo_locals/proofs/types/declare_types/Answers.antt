use Rattle.limbo_tree.specs.View as source
use Rattle.limbo_tree.specs.View.{names_of}
use Rattle.limbo_context.specs.View.{view_context, view_body}
use Rattle.limbo_locals.proofs.Rules.{named_type_fails, named_type_again}
use Rattle.limbo_locals.proofs.types.declare_types.Goals as goal

pub returns-in-Err-clause-refused : goal.returns-in-Err-clause-refused
returns-in-Err-clause-refused c = named_type_fails (view_context c.args.context.now) (view_body c.args.body.now) c.in-Err.fault.cause
    (names_of c.args.names.now) (source.view_type c.args.of.now) c.in-Err.ensures.refused

pub returns-in-Err-declare_names-clause-refused : goal.returns-in-Err-declare_names-clause-refused
returns-in-Err-declare_names-clause-refused c =
    named_type_again (view_context c.args.context.now) (view_body c.args.body.now) c.in-Err-declare_names.cause (names_of
    c.args.names.now) (source.view_type c.args.of.now) c.in-Err-declare_names.ensures.twice
