use Rattle.std.proofs.Common.{refl, map, subst}
use Rattle.std.proofs.lemmas.List.{take_all}
use Rattle.limbo_types.specs.View.{tys_of}
use Rattle.limbo_layout.specs.Adts.{AllName, types_of, variant_types}
use Rattle.limbo_layout.specs.View.{view_defs, view_fields, view_variant}
use Rattle.link_sign_rows.proofs.Named.{variant_more}
use Rattle.link_sign_rows.proofs.naming.variants_name.Goals as goal

pub loop-variant-preserved : goal.loop-variant-preserved
loop-variant-preserved c =
    variant_more (view_defs c.args.defs.now) c.args.modules c.args.variants.now c.loop-variant.variant-index c.variant-item.result c.loop-variant-test.true c.variant-item.is c.loop-variant.invariant
    (subst (λ z. AllName (view_defs c.args.defs.now) c.args.modules (tys_of (types_of (view_fields z)))) c.deref.ensures.value (c.if-not-fields_name.ensures refl))

pub returns : goal.returns
returns c = λ h.
    subst (λ z. AllName (view_defs c.args.defs.now) c.args.modules (tys_of (variant_types (map view_variant z))))
    (take_all c.loop-variant.variant-index c.args.variants.now c.loop-variant-test.false) c.loop-variant.invariant
