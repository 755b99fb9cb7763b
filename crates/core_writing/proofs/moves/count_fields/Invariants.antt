use Rattle.std.proofs.Common.{◌≡◌, ◌+◌, map, drop, length}
use Rattle.limbo_layout.specs.Adts.{variant_types}
use Rattle.limbo_layout.specs.View.{view_variant}
use Rattle.core_writing.proofs.moves.count_fields.Given as goal

abbrev pub invariant-loop-variant : goal.invariant-loop-variant
invariant-loop-variant l =
    l.sum + length (variant_types (map view_variant (drop l.variant-index l.picks))) ≡ length (variant_types (map view_variant l.picks))
