use Rattle.std.proofs.Common.{map}
use Rattle.limbo_tree.specs.View.{view_expr, names_of}
use Rattle.limbo_context.specs.View.{view_context, view_body, view_valued}
use Rattle.limbo_locals.proofs.Known.{adds_constants, scopes_added, rows_kept, as_many_constants}
use Rattle.limbo_locals.proofs.constants.add_constants.Goals as goal

pub returns-in-Ok-place_constants-clause-adds : goal.returns-in-Ok-place_constants-clause-adds
returns-in-Ok-place_constants-clause-adds c =
    adds_constants (view_context c.args.context.now) (view_body c.args.body.now) (view_expr c.args.e.now) (names_of c.args.names.now)
    (view_context c.place_constants.new.context) (view_context c.constants_of.new.context) (view_body c.place_constants.new.body)
    (view_body c.constants_of.new.body) (map view_valued c.in-Ok.values.items) c.in-Ok.ensures.constants c.in-Ok.ensures.context
    c.in-Ok-place_constants.ensures.declared

pub returns-in-Ok-place_constants-clause-scopes : goal.returns-in-Ok-place_constants-clause-scopes
returns-in-Ok-place_constants-clause-scopes c =
    as_many_constants c.args.context.now.constants.items (names_of c.args.names.now) c.args.body.now.scopes _
    (scopes_added (view_context c.args.context.now) (view_body c.args.body.now) (view_expr c.args.e.now) (names_of c.args.names.now)
    (view_context c.place_constants.new.context) (view_context c.constants_of.new.context) (view_body c.place_constants.new.body)
    (view_body c.constants_of.new.body) (map view_valued c.in-Ok.values.items) c.in-Ok.ensures.context c.in-Ok.ensures.scopes
    c.in-Ok-place_constants.ensures.declared)

pub returns-in-Ok-place_constants-clause-rows : goal.returns-in-Ok-place_constants-clause-rows
returns-in-Ok-place_constants-clause-rows c =
    rows_kept (view_context c.args.context.now) (view_body c.args.body.now) (view_expr c.args.e.now) (names_of c.args.names.now)
    (view_context c.place_constants.new.context) (view_context c.constants_of.new.context) (view_body c.place_constants.new.body)
    (view_body c.constants_of.new.body) (map view_valued c.in-Ok.values.items) c.in-Ok.ensures.context
    c.in-Ok-place_constants.ensures.declared
