use Rattle.std.proofs.Common.{◌≡◌, List, Some, map, sym, ap, ◌∙◌, subst}
use Rattle.std.specs.Prelude.{slice_get}
use Rattle.limbo_types.specs.Types as types
use Rattle.limbo_types.specs.View.{view_ty, view_tys}
use Rattle.limbo_types.specs.declared.ty.Ty as code_ty
use Rattle.limbo_types.proofs.View.{view_ty-Adt, view_ty-RefAdt, view_ty-RefPick, view_ty-Tuple}
use Rattle.limbo_layout.specs.View.{view_defs}
use Rattle.limbo_fields.specs.Fields.{Names, of_adt, of_ref, of_variant, of_tuple}
use Rattle.limbo_fields.proofs.Named.{ok_some, ok_none, some_some, none_none, none_adt, none_ref, none_variant, none_tuple, none_other, all_listed}
use Rattle.limbo_fields.proofs.part.part_of.Goals as goal

pub returns-in-Adt-clause-found : goal.returns-in-Adt-clause-found
returns-in-Adt-clause-found c =
    let defs = view_defs c.args.defs.now in
    let e : view_ty c.args.of.now ≡ types.Adt c.in-Adt.adt = ap view_ty c.in-Adt.is ∙ view_ty-Adt c.in-Adt.adt in
    ok_some c.part_at.result _ _
    (λ p h. subst (λ (z : types.Ty). Names defs c.args.name.now z p.number (view_ty p.ty.now)) (sym e) (of_adt c.in-Adt.adt h.0 p.number (view_ty p.ty.now) h.1 h.2))
    c.part_at.ensures.found

pub returns-in-Adt-clause-absent : goal.returns-in-Adt-clause-absent
returns-in-Adt-clause-absent c =
    let defs = view_defs c.args.defs.now in
    let e : view_ty c.args.of.now ≡ types.Adt c.in-Adt.adt = ap view_ty c.in-Adt.is ∙ view_ty-Adt c.in-Adt.adt in
    ok_none c.part_at.result _ _
    (λ h part t n. none_adt defs c.args.name.now c.in-Adt.adt h part t (subst (λ (z : types.Ty). Names defs c.args.name.now z part t) e n))
    c.part_at.ensures.absent

pub returns-in-RefAdt-clause-found : goal.returns-in-RefAdt-clause-found
returns-in-RefAdt-clause-found c =
    let defs = view_defs c.args.defs.now in
    let e : view_ty c.args.of.now ≡ types.RefAdt c.in-RefAdt.adt = ap view_ty c.in-RefAdt.is ∙ view_ty-RefAdt c.in-RefAdt.adt in
    ok_some c.part_at-in-RefAdt.result _ _
    (λ p h. subst (λ (z : types.Ty). Names defs c.args.name.now z p.number (view_ty p.ty.now)) (sym e) (of_ref c.in-RefAdt.adt h.0 p.number (view_ty p.ty.now) h.1 h.2))
    c.part_at-in-RefAdt.ensures.found

pub returns-in-RefAdt-clause-absent : goal.returns-in-RefAdt-clause-absent
returns-in-RefAdt-clause-absent c =
    let defs = view_defs c.args.defs.now in
    let e : view_ty c.args.of.now ≡ types.RefAdt c.in-RefAdt.adt = ap view_ty c.in-RefAdt.is ∙ view_ty-RefAdt c.in-RefAdt.adt in
    ok_none c.part_at-in-RefAdt.result _ _
    (λ h part t n. none_ref defs c.args.name.now c.in-RefAdt.adt h part t (subst (λ (z : types.Ty). Names defs c.args.name.now z part t) e n))
    c.part_at-in-RefAdt.ensures.absent

pub returns-in-RefPick-clause-found : goal.returns-in-RefPick-clause-found
returns-in-RefPick-clause-found c =
    let defs = view_defs c.args.defs.now in
    let e : view_ty c.args.of.now ≡ types.RefPick c.in-RefPick.adt c.in-RefPick.variant = ap view_ty c.in-RefPick.is ∙ view_ty-RefPick c.in-RefPick.adt c.in-RefPick.variant in
    ok_some c.part_at-in-RefPick.result _ _
    (λ p h. subst (λ (z : types.Ty). Names defs c.args.name.now z p.number (view_ty p.ty.now)) (sym e) (of_variant c.in-RefPick.adt c.in-RefPick.variant h.0 p.number (view_ty p.ty.now) h.1 h.2))
    c.part_at-in-RefPick.ensures.found

pub returns-in-RefPick-clause-absent : goal.returns-in-RefPick-clause-absent
returns-in-RefPick-clause-absent c =
    let defs = view_defs c.args.defs.now in
    let e : view_ty c.args.of.now ≡ types.RefPick c.in-RefPick.adt c.in-RefPick.variant = ap view_ty c.in-RefPick.is ∙ view_ty-RefPick c.in-RefPick.adt c.in-RefPick.variant in
    ok_none c.part_at-in-RefPick.result _ _
    (λ h part t n. none_variant defs c.args.name.now c.in-RefPick.adt c.in-RefPick.variant h part t (subst (λ (z : types.Ty). Names defs c.args.name.now z part t) e n))
    c.part_at-in-RefPick.ensures.absent

pub returns-in-Tuple-clause-found : goal.returns-in-Tuple-clause-found
returns-in-Tuple-clause-found c =
    let defs = view_defs c.args.defs.now in
    let ts = c.in-Tuple.parts.items in
    let e : view_ty c.args.of.now ≡ types.Tuple (view_tys ts) = ap view_ty c.in-Tuple.is ∙ view_ty-Tuple c.in-Tuple.parts in
    let d = ap (λ (z : List code_ty.Ty). map view_ty z) c.deref.ensures.value ∙ sym (all_listed (map view_ty ts)) in
    some_some c.part_of_tuple.result _ _
    (λ p h. subst (λ (z : types.Ty). Names defs c.args.name.now z p.number (view_ty p.ty.now)) (sym e)
    (of_tuple (view_tys ts) p.number (view_ty p.ty.now) h.0
    (subst (λ (z : List types.Ty). slice_get z p.number ≡ Some (view_ty p.ty.now)) d h.1)))
    c.part_of_tuple.ensures.found

pub returns-in-Tuple-clause-absent : goal.returns-in-Tuple-clause-absent
returns-in-Tuple-clause-absent c =
    let defs = view_defs c.args.defs.now in
    let ts = c.in-Tuple.parts.items in
    let e : view_ty c.args.of.now ≡ types.Tuple (view_tys ts) = ap view_ty c.in-Tuple.is ∙ view_ty-Tuple c.in-Tuple.parts in
    let d = ap (λ (z : List code_ty.Ty). map view_ty z) c.deref.ensures.value ∙ sym (all_listed (map view_ty ts)) in
    none_none c.part_of_tuple.result _ _
    (λ h part t n. none_tuple defs c.args.name.now (view_tys ts)
    (λ k u p g. h k u p (subst (λ (z : List types.Ty). slice_get z k ≡ Some u) (sym d) g)) part t
    (subst (λ (z : types.Ty). Names defs c.args.name.now z part t) e n))
    c.part_of_tuple.ensures.absent

pub returns-in_default : goal.returns-in_default
returns-in_default c = record {
  found = tt;
  absent = λ part t n. none_other (view_defs c.args.defs.now) c.args.name.now c.args.of.now c.in_default.not-Tuple c.in_default.not-Adt c.in_default.not-RefAdt
      c.in_default.not-RefPick part t n;
}
