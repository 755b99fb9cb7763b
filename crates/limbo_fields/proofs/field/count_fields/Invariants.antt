use Rattle.std.proofs.Common.{◌≡◌, length, map, take}
use Rattle.limbo_layout.specs.Adts.{variant_types}
use Rattle.limbo_layout.specs.View.{view_variant}
use Rattle.limbo_fields.proofs.field.count_fields.Given as goal

abbrev pub invariant-loop-variant : goal.invariant-loop-variant
invariant-loop-variant l = l.count ≡ length (variant_types (map view_variant (take l.variant-index l.variants)))
