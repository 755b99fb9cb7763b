use Rattle.std.proofs.Common.{map}
use Rattle.limbo_tree.specs.View.{view_expr, names_of}
use Rattle.limbo_typed.specs.View.{view_stmt}
use Rattle.limbo_context.specs.View.{view_context, view_body, view_valued}
use Rattle.limbo_locals.proofs.Known.{if_ok, constants_fail, constants_again, constants_declare}
use Rattle.limbo_locals.proofs.constants.declare_constants.Goals as goal

pub returns-in-Err-clause-refused : goal.returns-in-Err-clause-refused
returns-in-Err-clause-refused c =
    constants_fail (view_context c.args.context.now) (view_body c.args.body.now) (view_expr c.args.e.now) (names_of c.args.names.now)
    c.in-Err.fault.cause c.in-Err.ensures.refused

pub returns-in-Ok-place_constants-clause-declares : goal.returns-in-Ok-place_constants-clause-declares
returns-in-Ok-place_constants-clause-declares c =
    if_ok c.nothing_runs.result (λ z h. constants_declare (view_context c.args.context.now) (view_body c.args.body.now)
    (view_expr c.args.e.now) (names_of c.args.names.now) (view_context c.place_constants.new.context)
    (view_context c.constants_of.new.context) (view_body c.place_constants.new.body) (view_body c.constants_of.new.body)
    (map view_valued c.in-Ok.values.items) (view_stmt z.value) c.in-Ok.ensures.constants c.in-Ok.ensures.context
    c.in-Ok-place_constants.ensures.free c.in-Ok-place_constants.ensures.declared h) c.nothing_runs.ensures.empty

pub returns-in-Err-place_constants-clause-refused : goal.returns-in-Err-place_constants-clause-refused
returns-in-Err-place_constants-clause-refused c =
    constants_again (view_context c.args.context.now) (view_body c.args.body.now) (view_expr c.args.e.now) (names_of c.args.names.now)
    c.in-Err-place_constants.cause (view_body c.constants_of.new.body) (map view_valued c.in-Ok.values.items)
    c.in-Ok.ensures.constants c.in-Err-place_constants.ensures.twice
