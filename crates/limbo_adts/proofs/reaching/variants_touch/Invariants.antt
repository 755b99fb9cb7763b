use Rattle.std.proofs.Common.{◌≡◌, map, drop}
use Rattle.limbo_types.specs.View.{view_ty}
use Rattle.limbo_layout.specs.Adts.{variant_types}
use Rattle.limbo_layout.specs.View.{view_variant}
use Rattle.limbo_adts.specs.Reading.{any_touch}
use Rattle.limbo_adts.proofs.reaching.variants_touch.Given as goal

abbrev pub invariant-loop-variant : goal.invariant-loop-variant
invariant-loop-variant l = any_touch (variant_types (map view_variant (drop l.variant-index l.picks))) (view_ty l.u) ≡ any_touch (variant_types (map view_variant l.picks)) (view_ty l.u)
