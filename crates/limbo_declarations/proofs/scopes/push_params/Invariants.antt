use Rattle.std.proofs.Common.{◌≡◌, ◌++◌, map, drop}
use Rattle.limbo_tree.specs.View.{view_param}
use Rattle.limbo_declarations.specs.Scopes.{param_names}
use Rattle.limbo_declarations.specs.View.{texts_of}
use Rattle.limbo_declarations.proofs.scopes.push_params.Given as goal

abbrev pub invariant-loop-p : goal.invariant-loop-p
invariant-loop-p l = texts_of l.all.items ++ param_names (map view_param (drop l.p-index l.params)) ≡ texts_of l.fn.all.items ++ param_names (map view_param l.params)
