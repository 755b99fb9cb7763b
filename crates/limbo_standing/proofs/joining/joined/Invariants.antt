use Rattle.std.proofs.Common.{◌≡◌, None, drop, option_map}
use Rattle.limbo_types.specs.View.{view_ty}
use Rattle.limbo_forms.specs.ArgTypes.{arg_types}
use Rattle.limbo_standing.specs.Joining as joining
use Rattle.limbo_standing.proofs.joining.joined.Given as goal

abbrev pub invariant-loop-element : goal.invariant-loop-element
invariant-loop-element l =
    joining.joined (option_map view_ty l.found) (arg_types (drop l.element-index l.elements)) ≡ joining.joined None (arg_types l.elements)
