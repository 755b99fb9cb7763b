use Rattle.std.proofs.Common.{◌≡◌, ◌++◌, map, take}
use Rattle.limbo_types.specs.View.{view_ty}
use Rattle.limbo_calls.proofs.Calls.{field_type}
use Rattle.limbo_calls.proofs.calling.add_types.Given as goal

abbrev pub invariant-loop-field : goal.invariant-loop-field
invariant-loop-field l = map view_ty l.types.items ≡ map view_ty l.fn.types.items ++ map field_type (take l.field-index l.fields)
