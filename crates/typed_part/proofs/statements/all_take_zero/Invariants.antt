use Rattle.std.proofs.Common.{◌≡◌, drop}
use Rattle.typed_part.specs.Part.{all, takes_zero}
use Rattle.typed_part.specs.Seen.{view_inside}
use Rattle.typed_part.proofs.statements.all_take_zero.Given as goal

abbrev pub invariant-loop-variable : goal.invariant-loop-variable
invariant-loop-variable l =
    all (takes_zero (view_inside l.inside)) (drop l.variable-index l.variables) ≡ all (takes_zero (view_inside l.inside)) l.variables
