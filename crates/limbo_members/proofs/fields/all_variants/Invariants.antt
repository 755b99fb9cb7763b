use Rattle.std.proofs.Common.{map, take}
use Rattle.limbo_tree.specs.View as source
use Rattle.limbo_layout.specs.View.{view_variant}
use Rattle.limbo_context.specs.View.{view_context, view_body}
use Rattle.limbo_locals.specs.limbo_local.Members.{AreVariants}
use Rattle.limbo_members.proofs.fields.all_variants.Given as goal

abbrev pub invariant-loop-v : goal.invariant-loop-v
invariant-loop-v l =
    AreVariants (view_context l.context) (view_body l.body) (map source.view_variant (take l.v-index l.all))
    (map view_variant l.variants.items)
