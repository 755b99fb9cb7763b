use Rattle.std.proofs.Common.{rules}
use Rattle.limbo_types.specs.View.{view_ty}
use Rattle.limbo_typed.proofs.View.{view_place_node-Element}
use Rattle.limbo_places.proofs.Elements.{character_answered, element_answered, no_int_answered, no_element_answered}
use Rattle.limbo_places.proofs.Told.{refuses_with}
use Rattle.limbo_places.proofs.element.index.Goals as goal

pub returns-then-not-is_int-clause-refused : goal.returns-then-not-is_int-clause-refused
returns-then-not-is_int-clause-refused c =
    refuses_with _ _ _ (no_int_answered c.args.base.value c.args.index.value (search rules)) (search rules)

pub returns-then-is_string-clause-typed : goal.returns-then-is_string-clause-typed
returns-then-is_string-clause-typed c =
    character_answered c.args.base.value c.args.index.value c.in_ok-character.field-0.value (search rules) (search rules)
    c.in_ok-character.ensures

pub returns-in_default-clause-refused : goal.returns-in_default-clause-refused
returns-in_default-clause-refused c =
    refuses_with _ _ _ (no_element_answered c.args.base.value c.args.index.value (search rules) (search rules)) (search rules)

pub returns-clause-typed : goal.returns-clause-typed
returns-clause-typed c =
    element_answered c.args.base.value c.args.index.value c.in_ok-read.field-0.value (view_ty c.in_ok-item.item.value)
    (search rules) (search rules)
    (search (rules, view_place_node-Element))
