use Rattle.std.proofs.Common.{refl, map, subst}
use Rattle.limbo_types.specs.View.{tys_of}
use Rattle.limbo_layout.specs.Adts.{AllName, types_of, variant_types}
use Rattle.limbo_layout.specs.View.{view_defs, view_fields, view_variant}
use Rattle.link_sign_rows.proofs.Named.{both_name}
use Rattle.link_sign_rows.proofs.naming.def_names.Goals as goal

pub returns-then-fields_name : goal.returns-then-fields_name
returns-then-fields_name c = λ h.
    let defs = view_defs c.args.defs.now in
    both_name defs c.args.modules (types_of (view_fields c.args.def.now.fields.items)) (variant_types (map view_variant c.args.def.now.picks.items))
    (subst (λ z. AllName defs c.args.modules (tys_of (types_of (view_fields z)))) c.deref.ensures.value (c.if-fields_name.ensures refl))
    (subst (λ z. AllName defs c.args.modules (tys_of (variant_types (map view_variant z)))) c.deref-then-fields_name.ensures.value (c.variants_name.ensures h))
