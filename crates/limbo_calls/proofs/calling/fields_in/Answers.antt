use Rattle.std.proofs.Common.{◌≡◌, ◌++◌, ◌∙◌, List, Some, length, map, refl, ap, subst}
use Rattle.std.specs.Prelude.{slice_get}
use Rattle.std.proofs.lemmas.Option.{slice_get_read}
use Rattle.limbo_types.specs.declared.ty.Ty as code_ty
use Rattle.limbo_types.specs.View.{view_ty}
use Rattle.limbo_layout.specs.Adts.{types_of}
use Rattle.limbo_layout.specs.View.{view_fields}
use Rattle.limbo_layout.specs.declared.def.Field as code_field
use Rattle.limbo_layout.specs.declared.def.Variant as code_variant
use Rattle.limbo_calls.proofs.Calls.{fields_found}
use Rattle.limbo_calls.proofs.calling.fields_in.Goals as goal

pub returns-in_ok-add_types-in-Some-clause-found : goal.returns-in_ok-add_types-in-Some-clause-found
returns-in_ok-add_types-in-Some-clause-found c =
    let d = c.args.def.now in
    let v = c.in-Some.variant in
    let own = c.in-Some-get.own.now in
    let picks = c.deref-in-Some.result.now in
    let h = c.in-Some-get.ensures.lookup in
    let there : slice_get d.picks.items v ≡ Some own =
    subst (λ (vs : List code_variant.Variant). slice_get vs v ≡ Some own) c.deref-in-Some.ensures.value
    (slice_get_read picks (length picks) v own refl h.3.0 h.1) in
    let common : map view_ty c.add_types.new.types.items ≡ types_of (view_fields d.fields.items) =
    c.in_ok-add_types.ensures
    ∙ ap (λ (ts : List code_ty.Ty). map view_ty ts ++ types_of (view_fields c.deref.result.now)) c.new-types.ensures.items
    ∙ ap (λ (fs : List code_field.Field). types_of (view_fields fs)) c.deref.ensures.value in
    let front = types_of (view_fields d.fields.items) in
    let all : map view_ty c.add_types-in-Some.new.types.items ≡ front ++ types_of (view_fields own.fields.items) =
    c.in_ok-add_types-in-Some.ensures
    ∙ ap (λ ts. ts ++ types_of (view_fields c.deref-in-Some-2.result.now)) common
    ∙ ap (λ (fs : List code_field.Field). front ++ types_of (view_fields fs)) c.deref-in-Some-2.ensures.value in
    fields_found d c.args.variant v own (map view_ty c.add_types-in-Some.new.types.items) c.in-Some.is there all
