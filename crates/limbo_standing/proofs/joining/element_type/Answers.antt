use Rattle.std.proofs.Common.{◌≡◌, None, option_map}
use Rattle.std.proofs.lemmas.Result.{IfOk-weaker}
use Rattle.limbo_types.specs.View.{view_ty}
use Rattle.limbo_forms.specs.ArgTypes.{arg_types}
use Rattle.limbo_standing.specs.Joining.{joined}
use Rattle.limbo_standing.proofs.Elements.{type_found, type_absent}
use Rattle.limbo_standing.proofs.joining.element_type.Goals as goal

pub returns-clause-found : goal.returns-clause-found
returns-clause-found c =
    IfOk-weaker c.joined.result (λ t. joined None (arg_types c.args.elements.now) ≡ option_map view_ty t) _
    (λ t h. type_found (arg_types c.args.elements.now) t h) c.joined.ensures

pub returns-clause-none : goal.returns-clause-none
returns-clause-none c =
    IfOk-weaker c.joined.result (λ t. joined None (arg_types c.args.elements.now) ≡ option_map view_ty t) _
    (λ t h. type_absent (arg_types c.args.elements.now) t h) c.joined.ensures
