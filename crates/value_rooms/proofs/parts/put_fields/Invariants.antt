use Rattle.std.proofs.Common.{◌≡◌, ◌++◌, map, take}
use Rattle.limbo_types.specs.View.{view_ty}
use Rattle.limbo_layout.specs.Adts.{types_of}
use Rattle.limbo_layout.specs.View.{view_fields}
use Rattle.value_rooms.proofs.parts.put_fields.Given as goal

abbrev pub invariant-loop-field : goal.invariant-loop-field
invariant-loop-field l =
    map view_ty l.types.items ≡ map view_ty l.fn.types.items ++ types_of (view_fields (take l.field-index l.fields))
