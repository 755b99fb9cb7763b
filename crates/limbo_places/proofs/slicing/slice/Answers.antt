use Rattle.std.proofs.Common.{rules}
use Rattle.limbo_types.specs.View.{view_ty}
use Rattle.limbo_types.proofs.View.{view_ty-Int}
use Rattle.limbo_typed.specs.View.{view_optional}
use Rattle.limbo_places.proofs.Slices.{slice_answered, of_base, of_from, of_to, refused_by}
use Rattle.limbo_places.proofs.slicing.slice.Goals as goal

pub returns-in_default-clause-refused : goal.returns-in_default-clause-refused
returns-in_default-clause-refused c =
    let base = c.args.base.value in
    refused_by base (view_optional c.args.from) (view_optional c.args.to) _ (view_ty base.ty)
    (of_base base (view_optional c.args.from) (view_optional c.args.to) (search rules)) (search (rules, view_ty-Int))

pub returns-in-Some-no_int-clause-refused : goal.returns-in-Some-no_int-clause-refused
returns-in-Some-no_int-clause-refused c =
    let base = c.args.base.value in
    let t = view_ty c.in-Some-no_int.t.now in
    refused_by base (view_optional c.args.from) (view_optional c.args.to) _ t
    (of_from base (view_optional c.args.from) (view_optional c.args.to) c.in-Some.of t (search rules) (search rules))
    (search (rules, view_ty-Int))

pub returns-in-Some-no_int-2-clause-refused : goal.returns-in-Some-no_int-2-clause-refused
returns-in-Some-no_int-2-clause-refused c =
    let base = c.args.base.value in
    let t = view_ty c.in-Some-no_int-2.t.now in
    refused_by base (view_optional c.args.from) (view_optional c.args.to) _ t
    (of_to base (view_optional c.args.from) (view_optional c.args.to) c.in-Some.of t (search rules) (search rules) (search rules))
    (search (rules, view_ty-Int))

pub returns-clause-typed : goal.returns-clause-typed
returns-clause-typed c =
    slice_answered c.args.base.value (view_optional c.args.from) (view_optional c.args.to) c.in_ok-sliced.field-0.value c.in-Some.of
    (search rules) (search rules) (search rules) c.in_ok-sliced.ensures
