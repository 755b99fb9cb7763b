use Rattle.std.proofs.Common.{◌≡◌, drop}
use Rattle.limbo_types.specs.View.{view_tys}
use Rattle.value_extents.specs.Extent.{all_behind, all_extents}
use Rattle.value_extents.proofs.table.+extents.Given as goal

abbrev pub invariant-types_behind-loop-t : goal.invariant-types_behind-loop-t
invariant-types_behind-loop-t l =
    all_behind l.sum (all_extents l.table (view_tys (drop l.t-index l.types)))
    ≡ all_behind l.fn.whole (all_extents l.table (view_tys l.types))
