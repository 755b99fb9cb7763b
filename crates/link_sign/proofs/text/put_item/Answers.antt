use Rattle.std.proofs.Common.{map, refl, sym, subst}
use Rattle.std.proofs.lemmas.Result.{on_ok_weaker}
use Rattle.limbo_types.specs.View.{view_ty}
use Rattle.limbo_layout.specs.View.{view_fields, view_variant}
use Rattle.limbo_adts.specs.Table.{defs_of}
use Rattle.link_sign.specs.TypeText.{pieces}
use Rattle.link_sign.specs.Drafts.{TheType, TheTypes, TheFields, TheVariants, Spreads, Steps, view_item}
use Rattle.link_sign.proofs.Steps.{step_letter, step_spreads}
use Rattle.link_sign.proofs.text.put_item.Goals as goal

pub returns-in-Letter : goal.returns-in-Letter
returns-in-Letter c =
    let h = c.put.ensures in
    on_ok_weaker c.put.result
    (λ x. subst (λ i. Steps (defs_of c.args.adts.now) c.args.adts.now.modules (view_item i) c.args.opened.now c.args.opened.now c.args.draft.now c.put.new.self) (sym c.in-Letter.is)
    (step_letter (defs_of c.args.adts.now) c.args.adts.now.modules c.in-Letter.letter c.args.opened.now c.args.draft.now c.put.new.self x))
    c.put.ensures

pub returns-in-Type : goal.returns-in-Type
returns-in-Type c =
    on_ok_weaker c.put_type.result
    (λ x. subst (λ i. Steps (defs_of c.args.adts.now) c.args.adts.now.modules (view_item i) c.args.opened.now c.args.opened.now c.args.draft.now c.put_type.new.draft) (sym c.in-Type.is)
    (step_spreads (defs_of c.args.adts.now) c.args.adts.now.modules (TheType (view_ty c.in-Type.t.now)) c.args.opened.now c.args.draft.now c.put_type.new.draft refl
    (subst (λ m. Spreads m (pieces m (view_ty c.in-Type.t.now)) c.args.draft.now c.put_type.new.draft) c.modules.ensures x)))
    c.put_type.ensures

pub returns-in-Types : goal.returns-in-Types
returns-in-Types c =
    on_ok_weaker c.put_types.result
    (λ x. subst (λ i. Steps (defs_of c.args.adts.now) c.args.adts.now.modules (view_item i) c.args.opened.now c.args.opened.now c.args.draft.now c.put_types.new.draft) (sym c.in-Types.is)
    (step_spreads (defs_of c.args.adts.now) c.args.adts.now.modules (TheTypes (map view_ty c.in-Types.ts.now)) c.args.opened.now c.args.draft.now c.put_types.new.draft refl x))
    (c.put_types.ensures c.args.adts.now.modules)

pub returns-in-Fields : goal.returns-in-Fields
returns-in-Fields c =
    on_ok_weaker c.put_fields.result
    (λ x. subst (λ i. Steps (defs_of c.args.adts.now) c.args.adts.now.modules (view_item i) c.args.opened.now c.args.opened.now c.args.draft.now c.put_fields.new.draft) (sym c.in-Fields.is)
    (step_spreads (defs_of c.args.adts.now) c.args.adts.now.modules (TheFields (view_fields c.in-Fields.fields.now)) c.args.opened.now c.args.draft.now c.put_fields.new.draft refl x))
    (c.put_fields.ensures c.args.adts.now.modules)

pub returns-in-Variants : goal.returns-in-Variants
returns-in-Variants c =
    on_ok_weaker c.put_variants.result
    (λ x. subst (λ i. Steps (defs_of c.args.adts.now) c.args.adts.now.modules (view_item i) c.args.opened.now c.args.opened.now c.args.draft.now c.put_variants.new.draft) (sym c.in-Variants.is)
    (step_spreads (defs_of c.args.adts.now) c.args.adts.now.modules (TheVariants (map view_variant c.in-Variants.variants.now)) c.args.opened.now c.args.draft.now c.put_variants.new.draft refl x))
    (c.put_variants.ensures c.args.adts.now.modules)
