use Rattle.std.proofs.Common.{map}
use Rattle.limbo_tree.specs.View.{view_expr, names_of}
use Rattle.limbo_context.specs.View.{view_context, view_body, view_valued}
use Rattle.limbo_locals.proofs.Counted.{Counted}
use Rattle.limbo_locals.proofs.constants.constants_of.Given as goal

abbrev pub invariant-loop-place : goal.invariant-loop-place
invariant-loop-place l =
    Counted (view_context l.initial.context) (view_context l.context) (view_body l.initial.body) (view_body l.body) (view_expr l.e)
    (names_of l.names) (map view_valued l.values.items) l.place
