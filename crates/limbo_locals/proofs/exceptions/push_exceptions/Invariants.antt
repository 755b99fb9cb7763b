use Rattle.std.proofs.Common.{◌≡◌, ◌++◌, map}
use Rattle.limbo_types.specs.View.{view_ty}
use Rattle.limbo_typed.specs.View.{view_exception}
use Rattle.limbo_locals.specs.Named.{exceptions_of}
use Rattle.limbo_locals.proofs.Pushed.{first}
use Rattle.limbo_locals.proofs.exceptions.push_exceptions.Given as goal

abbrev pub invariant-loop-name : goal.invariant-loop-name
invariant-loop-name l =
    map view_exception l.exceptions.items
    ≡ map view_exception l.initial.exceptions.items ++ exceptions_of l.module_name (first l.name-index l.names) (map view_ty l.values)
