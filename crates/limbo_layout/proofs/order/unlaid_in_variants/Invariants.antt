use Rattle.std.proofs.Common.{◌⊎◌, ℕ, true, drop, map}
use Rattle.limbo_layout.specs.Adts.{Has, held_in, variant_types}
use Rattle.limbo_layout.specs.Paths.{IsAt}
use Rattle.limbo_layout.specs.View.{view_variant}
use Rattle.limbo_layout.proofs.order.unlaid_in_variants.Given as goal

abbrev pub invariant-loop-variant : goal.invariant-loop-variant
invariant-loop-variant l = record {
  all : (n : ℕ) → Has (held_in (variant_types (map view_variant l.picks))) n → IsAt l.laid n true ⊎ Has (held_in (variant_types (map view_variant (drop l.variant-index l.picks)))) n;
  only : (n : ℕ) → Has (held_in (variant_types (map view_variant (drop l.variant-index l.picks)))) n → Has (held_in (variant_types (map view_variant l.picks))) n;
}
