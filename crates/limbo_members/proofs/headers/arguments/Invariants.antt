use Rattle.std.proofs.Common.{map, take}
use Rattle.limbo_tree.specs.View.{view_param}
use Rattle.limbo_types.specs.View.{view_ty}
use Rattle.limbo_context.specs.View.{view_context, view_body}
use Rattle.limbo_locals.specs.limbo_local.Local.{argument_types, ArePermitted}
use Rattle.limbo_members.proofs.headers.arguments.Given as goal

abbrev pub invariant-loop-param : goal.invariant-loop-param
invariant-loop-param l =
    ArePermitted (view_context l.context) (view_body l.body) (argument_types (map view_param (take l.param-index l.params)))
    (map view_ty l.types.items)
