use Rattle.std.proofs.Common.{◌≡◌, [], refl, ◌∙◌, rules}
use Rattle.limbo_types.specs.Types.{Ty}
use Rattle.limbo_types.specs.View.{view_ty}
use Rattle.limbo_typed.specs.View.{view_place}
use Rattle.limbo_typed.proofs.View.{view_node-Step}
use Rattle.limbo_prefixes.specs.Rows.{OneRow, UnaryRow, before_of}
use Rattle.limbo_places.proofs.Steps.{no_place_refused, step_answered, no_place_answered, clash_answered}
use Rattle.limbo_places.proofs.stepping.step.Goals as goal

pub returns-in_default-clause-refused : goal.returns-in_default-clause-refused
returns-in_default-clause-refused c =
    (no_place_refused c.args.e.value (search rules), no_place_answered c.args.e.value c.args.op c.args.given (search rules))

pub returns-in_default-2-clause-refused : goal.returns-in_default-2-clause-refused
returns-in_default-2-clause-refused c =
    clash_answered c.args.e.value c.args.op c.args.given _ (view_place c.in-Ok.place.value) (view_ty c.in_ok-ty.ty.value)
    (search rules) (search rules) (search rules) (search rules)

pub returns-clause-typed : goal.returns-clause-typed
returns-clause-typed c =
    let t : Ty = view_ty c.in_ok-ty.ty.value in
    let row : (row : OneRow) × UnaryRow [] (before_of c.args.op) t row × (c.in-Some.operation ≡ row.operation) =
    search rules in
    step_answered c.args.e.value c.args.op c.args.given c.in_ok-boxed.field-0.value (view_place c.in-Ok.place.value)
    (view_ty c.in_ok-ty.ty.value) c.in-Some.operation (search rules) (search rules) row
    (c.in_ok-boxed.ensures ∙ rw (view_node-Step c.in-Some.operation c.args.given c.in-Ok.place, c.into_inner.ensures) refl)
