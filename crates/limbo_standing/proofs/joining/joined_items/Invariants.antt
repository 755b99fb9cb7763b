use Rattle.std.proofs.Common.{◌≡◌, None, drop, option_map}
use Rattle.limbo_types.specs.View.{view_ty}
use Rattle.limbo_standing.specs.Joining.{joined}
use Rattle.limbo_standing.specs.ItemTypes.{item_types}
use Rattle.limbo_standing.proofs.joining.joined_items.Given as goal

abbrev pub invariant-loop-item : goal.invariant-loop-item
invariant-loop-item l =
    joined (option_map view_ty l.found) (item_types (drop l.item-index l.items) l.rest) ≡ joined None (item_types l.items l.rest)
