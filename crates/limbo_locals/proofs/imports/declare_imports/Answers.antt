use Rattle.limbo_tree.specs.View.{names_of}
use Rattle.limbo_context.specs.View.{view_context, view_body}
use Rattle.limbo_locals.proofs.Rules.{import_fails, member_fails, import_again}
use Rattle.limbo_locals.proofs.imports.declare_imports.Goals as goal

pub returns-in-Err-clause-refused : goal.returns-in-Err-clause-refused
returns-in-Err-clause-refused c =
    import_fails (view_context c.args.context.now) (view_body c.args.body.now) c.in-Err.cause (names_of c.args.names.now) c.args.module.now
    c.in-Err.ensures.refused

pub returns-in-Err-import_all-clause-refused : goal.returns-in-Err-import_all-clause-refused
returns-in-Err-import_all-clause-refused c =
    member_fails (view_context c.args.context.now) (view_body c.args.body.now) c.in-Err-import_all.cause (names_of c.args.names.now)
    c.args.module.now c.in-Ok.source.origin c.in-Ok.source.interface c.in-Ok.ensures.names c.in-Err-import_all.ensures.refused

pub returns-in-Err-declare_names-clause-refused : goal.returns-in-Err-declare_names-clause-refused
returns-in-Err-declare_names-clause-refused c =
    import_again (view_context c.args.context.now) (view_body c.args.body.now) c.in-Err-declare_names.cause (names_of c.args.names.now)
    c.args.module.now c.in-Err-declare_names.ensures.twice
