use Rattle.std.proofs.Common.{◌≡◌, ◌++◌, map, take}
use Rattle.limbo_tree.specs.View.{name_of}
use Rattle.limbo_types.specs.View.{view_ty}
use Rattle.limbo_headers.specs.Headers.{each_name}
use Rattle.limbo_headers.proofs.functions.push_each.Given as goal

abbrev pub invariant-loop-name : goal.invariant-loop-name
invariant-loop-name l =
    map view_ty l.types.items ≡ map view_ty l.initial.types.items ++ each_name (map name_of (take l._name-index l.names)) (view_ty l.ty)
