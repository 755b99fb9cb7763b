use Rattle.std.proofs.Common.{◌≡◌, map, take}
use Rattle.limbo_tree.specs.View as source
use Rattle.limbo_layout.specs.View.{view_variant}
use Rattle.limbo_locals.specs.limbo_local.Members.{bare}
use Rattle.limbo_members.proofs.fields.bare_of.Given as goal

abbrev pub invariant-loop-variant : goal.invariant-loop-variant
invariant-loop-variant l = map view_variant l.variants.items ≡ bare (map source.view_variant (take l.variant-index l.all))
