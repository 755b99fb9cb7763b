use Rattle.std.proofs.Common.{map, drop}
use Rattle.limbo_tree.specs.View.{view_param}
use Rattle.limbo_unknown.specs.Written.{in_params}
use Rattle.limbo_unknown.proofs.Gaps.{Alike}
use Rattle.limbo_unknown.proofs.types.missing_in_params.Given as goal

abbrev pub invariant-loop-param : goal.invariant-loop-param
invariant-loop-param l =
    Alike l.naming l.scope (in_params (map view_param (drop l.param-index l.params))) (in_params (map view_param l.params))
