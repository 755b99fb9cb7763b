use Rattle.std.proofs.Common.{◌≡◌, List, sym, ap, ◌∙◌, subst}
use Rattle.std.proofs.lemmas.Option.{get_or_from_slice_get}
use Rattle.std.specs.Prelude.{slice_get, Some}
use Rattle.limbo_types.specs.View.{view_ty}
use Rattle.limbo_layout.specs.View.{view_def, view_fields}
use Rattle.limbo_layout.specs.declared.def.Field as code_field
use Rattle.limbo_fields.proofs.Named.{common_is, none_at}
use Rattle.limbo_fields.proofs.part.part_in.Goals as goal

pub returns-in-Some-find_field-clause-found : goal.returns-in-Some-find_field-clause-found
returns-in-Some-find_field-clause-found c =
    let found = (c.in-Some-find_field.ensures {u = tt}).found in
    let place = c.in-Some-find_field.place in
    let fields = c.args.def.now.fields.items in
    let there = subst (λ (z : List code_field.Field). slice_get z place ≡ Some found.0) c.deref.ensures.value found.1 in
    common_is (view_def c.args.def.now) c.args.variant c.args.name.now (view_fields c.deref.result.now) place c.before_common.result (view_ty found.0.ty) _
    (none_at c.in_ok-part.field-0 (c.in_ok-part.ensures {u = tt}).absent c.in_default.is)
    (ap view_fields c.deref.ensures.value) found.2
    (sym (ap (λ (z : code_field.Field). view_ty z.ty) (c.index.ensures ∙ get_or_from_slice_get fields place found.0 c.index.result.now there)))
    c.before_common.ensures
