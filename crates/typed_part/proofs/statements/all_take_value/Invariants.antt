use Rattle.std.proofs.Common.{◌≡◌, drop}
use Rattle.limbo_types.specs.View.{view_ty}
use Rattle.typed_part.specs.Part.{all, takes_value}
use Rattle.typed_part.specs.Seen.{view_inside}
use Rattle.typed_part.proofs.statements.all_take_value.Given as goal

abbrev pub invariant-loop-variable : goal.invariant-loop-variable
invariant-loop-variable l =
    all (takes_value (view_inside l.inside) (view_ty l.t)) (drop l.variable-index l.variables)
    ≡ all (takes_value (view_inside l.inside) (view_ty l.t)) l.variables
