use Rattle.std.proofs.Common.{◌≡◌, ◌++◌, map, take}
use Rattle.limbo_types.specs.View.{view_ty}
use Rattle.limbo_layout.specs.Adts.{variant_types}
use Rattle.limbo_layout.specs.View.{view_variant}
use Rattle.limbo_members.proofs.closing.push_variant_types.Given as goal

abbrev pub invariant-loop-variant : goal.invariant-loop-variant
invariant-loop-variant l =
    map view_ty l.types.items
    ≡ map view_ty l.initial.types.items ++ variant_types (map view_variant (take l.variant-index l.variants))
