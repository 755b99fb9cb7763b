use Rattle.std.proofs.Common.{◌≡◌, drop, map}
use Rattle.limbo_layout.specs.Adts.{variant_types}
use Rattle.limbo_layout.specs.Layout.{all_behind}
use Rattle.limbo_layout.specs.Laying.{rooms_of}
use Rattle.limbo_layout.specs.View.{view_variant}
use Rattle.limbo_layout.proofs.laying.put_variants.Given as goal

abbrev pub invariant-loop-variant : goal.invariant-loop-variant
invariant-loop-variant l = all_behind l.whole (rooms_of l.rooms (variant_types (map view_variant (drop l.variant-index l.picks)))) ≡ all_behind l.fn.whole (rooms_of l.rooms (variant_types (map view_variant l.picks)))
