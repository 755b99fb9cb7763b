use Rattle.std.proofs.Common.{rules}
use Rattle.limbo_places.proofs.References.{reference_answered, no_reference_answered}
use Rattle.limbo_places.proofs.Told.{refuses_with}
use Rattle.limbo_places.proofs.reference.refer.Goals as goal

pub returns-in_default-clause-refused : goal.returns-in_default-clause-refused
returns-in_default-clause-refused c = refuses_with _ _ _ (no_reference_answered c.args.value.value (search rules)) (search rules)

pub returns-clause-typed : goal.returns-clause-typed
returns-clause-typed c =
    reference_answered c.args.value.value c.in_ok-reference.field-0.value c.in-Some.adt (search rules) c.in_ok-reference.ensures
