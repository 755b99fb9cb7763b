use Rattle.std.proofs.Common.{◌≡◌, drop}
use Rattle.limbo_layout.specs.Adts.{types_of}
use Rattle.limbo_layout.specs.Layout.{all_behind}
use Rattle.limbo_layout.specs.Laying.{rooms_of}
use Rattle.limbo_layout.specs.View.{view_fields}
use Rattle.limbo_layout.proofs.laying.put_fields.Given as goal

abbrev pub invariant-loop-field : goal.invariant-loop-field
invariant-loop-field l = all_behind l.whole (rooms_of l.rooms (types_of (view_fields (drop l.field-index l.fields)))) ≡ all_behind l.fn.whole (rooms_of l.rooms (types_of (view_fields l.fields)))
