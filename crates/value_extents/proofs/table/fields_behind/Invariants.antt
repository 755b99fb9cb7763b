use Rattle.std.proofs.Common.{◌≡◌, drop}
use Rattle.limbo_layout.specs.Adts.{types_of}
use Rattle.limbo_layout.specs.View.{view_fields}
use Rattle.value_extents.specs.Extent.{all_behind, extents_of}
use Rattle.value_extents.proofs.table.fields_behind.Given as goal

abbrev pub invariant-loop-field : goal.invariant-loop-field
invariant-loop-field l =
    all_behind l.sum (extents_of l.table (types_of (view_fields (drop l.field-index l.fields))))
    ≡ all_behind l.fn.whole (extents_of l.table (types_of (view_fields l.fields)))
