use Rattle.std.proofs.Common.{◌≡◌, ◌++◌, drop, map}
use Rattle.limbo_tree.specs.View.{view_param}
use Rattle.limbo_bodies.specs.Bodies.{parameter_names}
use Rattle.limbo_bodies.specs.View.{names_seen}
use Rattle.limbo_bodies.proofs.parameters.parameter_names.Given as goal

abbrev pub invariant-loop-param : goal.invariant-loop-param
invariant-loop-param l =
    names_seen l.names.items ++ parameter_names (map view_param (drop l.param-index l.params)) ≡ parameter_names (map view_param l.params)
