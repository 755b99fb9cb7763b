use Rattle.std.proofs.Common.{◌≡◌, None, option_map}
use Rattle.std.proofs.lemmas.Result.{IfOk-weaker}
use Rattle.limbo_types.specs.View.{view_ty}
use Rattle.limbo_standing.specs.ItemTypes.{item_types}
use Rattle.limbo_standing.specs.Joining.{joined}
use Rattle.limbo_standing.proofs.Elements.{type_found, type_absent}
use Rattle.limbo_standing.proofs.joining.item_type.Goals as goal

pub returns-clause-found : goal.returns-clause-found
returns-clause-found c =
    IfOk-weaker c.joined_items.result (λ t. joined None (item_types c.args.items.now c.args.rest) ≡ option_map view_ty t) _
    (λ t h. type_found (item_types c.args.items.now c.args.rest) t h) c.joined_items.ensures

pub returns-clause-none : goal.returns-clause-none
returns-clause-none c =
    IfOk-weaker c.joined_items.result (λ t. joined None (item_types c.args.items.now c.args.rest) ≡ option_map view_ty t) _
    (λ t h. type_absent (item_types c.args.items.now c.args.rest) t h) c.joined_items.ensures
