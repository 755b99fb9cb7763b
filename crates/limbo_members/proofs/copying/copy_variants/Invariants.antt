use Rattle.std.proofs.Common.{◌≡◌, take, map}
use Rattle.limbo_layout.specs.View.{view_variant}
use Rattle.limbo_members.proofs.copying.copy_variants.Given as goal

abbrev pub invariant-loop-variant : goal.invariant-loop-variant
invariant-loop-variant l = map view_variant l.copies.items ≡ map view_variant (take l.variant-index l.variants)
