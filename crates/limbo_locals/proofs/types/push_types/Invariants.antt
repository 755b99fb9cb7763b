use Rattle.std.proofs.Common.{◌≡◌, ◌++◌, map}
use Rattle.limbo_types.specs.View.{view_ty}
use Rattle.limbo_locals.specs.Named.{types_of}
use Rattle.limbo_locals.proofs.Pushed.{first}
use Rattle.limbo_locals.proofs.types.push_types.Given as goal

abbrev pub invariant-loop-each : goal.invariant-loop-each
invariant-loop-each l =
    map view_ty l.types.items ≡ map view_ty l.initial.types.items ++ types_of (first l._each-index l.names) (view_ty l.t)
