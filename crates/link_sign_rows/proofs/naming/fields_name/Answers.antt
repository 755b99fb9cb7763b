use Rattle.std.proofs.Common.{refl, subst}
use Rattle.std.proofs.lemmas.List.{take_all}
use Rattle.limbo_types.specs.View.{tys_of}
use Rattle.limbo_layout.specs.Adts.{AllName, types_of}
use Rattle.limbo_layout.specs.View.{view_defs, view_fields}
use Rattle.link_sign_rows.proofs.Named.{field_more}
use Rattle.link_sign_rows.proofs.naming.fields_name.Goals as goal

pub loop-field-preserved : goal.loop-field-preserved
loop-field-preserved c =
    field_more (view_defs c.args.defs.now) c.args.modules c.args.fields.now c.loop-field.field-index c.field-item.result c.loop-field-test.true c.field-item.is c.loop-field.invariant
    (c.if-not-names.ensures refl)

pub returns : goal.returns
returns c = λ h.
    subst (λ z. AllName (view_defs c.args.defs.now) c.args.modules (tys_of (types_of (view_fields z))))
    (take_all c.loop-field.field-index c.args.fields.now c.loop-field-test.false) c.loop-field.invariant
