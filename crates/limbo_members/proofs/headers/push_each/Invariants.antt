use Rattle.std.proofs.Common.{◌++◌, List, map, take}
use Rattle.limbo_tree.specs.Types as written
use Rattle.limbo_tree.specs.View.{view_type, name_of}
use Rattle.limbo_types.specs.View.{view_ty}
use Rattle.limbo_context.specs.View.{view_context, view_body}
use Rattle.limbo_locals.specs.limbo_local.Local.{ArePermitted}
use Rattle.limbo_members.specs.Written.{of_each}
use Rattle.limbo_members.proofs.headers.push_each.Given as goal

abbrev pub invariant-loop-name : goal.invariant-loop-name
invariant-loop-name l =
    (ts : List written.Ty) → ArePermitted (view_context l.context) (view_body l.body) ts (map view_ty l.initial.types.items)
    → ArePermitted (view_context l.context) (view_body l.body)
    (ts ++ of_each (take l._name-index (map name_of l.names)) (view_type l.of)) (map view_ty l.types.items)
