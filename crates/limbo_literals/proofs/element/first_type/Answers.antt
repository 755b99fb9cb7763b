use Rattle.std.proofs.Common.{[], ◌∷◌}
use Rattle.limbo_types.specs.View.{view_ty}
use Rattle.limbo_literals.proofs.Elements.{first_is}
use Rattle.limbo_literals.proofs.element.first_type.Goals as goal

pub returns-in-Some : goal.returns-in-Some
returns-in-Some c = first_is c.args.items.now c.in-Some.item.now (view_ty c.args.rest.now.ty ∷ []) c.in-Some.ensures.value
