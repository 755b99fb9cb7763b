use Rattle.std.proofs.Common.{refl, ◌∙◌, rules}
use Rattle.limbo_types.proofs.View.{view_ty-Adt}
use Rattle.limbo_typed.proofs.View.{view_place_node-Target}
use Rattle.limbo_places.proofs.Targets.{target_answered, no_target_answered}
use Rattle.limbo_places.proofs.Told.{refuses_with}
use Rattle.limbo_places.proofs.target.dereference.Goals as goal

pub returns-in_default-clause-refused : goal.returns-in_default-clause-refused
returns-in_default-clause-refused c = refuses_with _ _ _ (no_target_answered c.args.reference.value (search rules)) (search rules)

pub returns-clause-typed : goal.returns-clause-typed
returns-clause-typed c =
    target_answered c.args.reference.value c.in_ok-read.field-0.value c.in-Some.adt (search rules)
    (c.in_ok-read.ensures ∙ rw (view_ty-Adt c.in-Some.adt, view_place_node-Target c.args.reference) refl)
