use Rattle.std.proofs.Common.{map, take}
use Rattle.limbo_tree.specs.View.{view_param, tys_of}
use Rattle.limbo_types.specs.View.{view_tys}
use Rattle.limbo_type_names.specs.Means.{AllMean}
use Rattle.limbo_type_names.specs.Working.{entries_in}
use Rattle.limbo_headers.specs.Headers.{argument_types}
use Rattle.limbo_headers.proofs.functions.arguments.Given as goal

abbrev pub invariant-loop-param : goal.invariant-loop-param
invariant-loop-param l =
    AllMean (entries_in l.names.naming.now) l.names.naming.now.implemented l.scope (tys_of (argument_types (map view_param (take l.param-index l.params))))
    (view_tys l.types.items)
