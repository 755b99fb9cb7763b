use Rattle.std.proofs.Common.{◌++◌, map, ap, ◌∙◌}
use Rattle.limbo_types.specs.View.{view_ty}
use Rattle.limbo_layout.specs.Adts.{types_of}
use Rattle.limbo_layout.specs.View.{view_fields}
use Rattle.limbo_members.proofs.Closed.{variant_types_more}
use Rattle.limbo_members.proofs.closing.push_variant_types.Goals as goal

pub loop-variant-preserved : goal.loop-variant-preserved
loop-variant-preserved c =
    variant_types_more (map view_ty c.args.types.now.items) (map view_ty c.loop-variant.types.items)
    (map view_ty c.push_field_types.new.types.items) c.args.variants.now c.loop-variant.variant-index c.variant-item.result
    (c.in_ok-push_field_types.ensures
    ∙ ap (λ fs. map view_ty c.loop-variant.types.items ++ types_of (view_fields fs)) c.deref.ensures.value) c.loop-variant-test.true
    c.variant-item.is c.loop-variant.invariant
