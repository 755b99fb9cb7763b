use Rattle.std.proofs.Common.{◌≡◌, ◌++◌, map}
use Rattle.limbo_types.specs.View.{view_fn}
use Rattle.limbo_typed.specs.View.{view_signature}
use Rattle.limbo_locals.proofs.Pushed.{first}
use Rattle.limbo_interfaces.specs.Modules.{signatures_of}
use Rattle.limbo_interfaces.proofs.functions.push_signatures.Given as goal

abbrev pub invariant-loop-name : goal.invariant-loop-name
invariant-loop-name l =
    map view_signature l.functions.items
    ≡ map view_signature l.initial.functions.items ++ signatures_of (first l.name-index l.names) (view_fn l.of)
