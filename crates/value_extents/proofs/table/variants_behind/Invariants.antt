use Rattle.std.proofs.Common.{◌≡◌, drop, map}
use Rattle.limbo_layout.specs.Adts.{variant_types}
use Rattle.limbo_layout.specs.View.{view_variant}
use Rattle.value_extents.specs.Extent.{all_behind, extents_of}
use Rattle.value_extents.proofs.table.variants_behind.Given as goal

abbrev pub invariant-loop-variant : goal.invariant-loop-variant
invariant-loop-variant l =
    all_behind l.sum (extents_of l.table (variant_types (map view_variant (drop l.variant-index l.picks))))
    ≡ all_behind l.fn.whole (extents_of l.table (variant_types (map view_variant l.picks)))
