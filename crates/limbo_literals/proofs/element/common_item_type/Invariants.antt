use Rattle.std.proofs.Common.{◌≡◌, Some, None, option_map, map, take}
use Rattle.limbo_types.specs.View.{view_ty}
use Rattle.limbo_literals.proofs.Elements.{so_far, type_in}
use Rattle.limbo_literals.proofs.element.common_item_type.Given as goal

abbrev pub invariant-loop-item : goal.invariant-loop-item
invariant-loop-item l = so_far None (map type_in (take l.item-index l.items)) ≡ Some (option_map view_ty l.found)
