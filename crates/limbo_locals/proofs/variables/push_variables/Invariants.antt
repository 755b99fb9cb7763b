use Rattle.limbo_types.specs.View.{view_ty}
use Rattle.limbo_locals.proofs.Pushed.{Pushed}
use Rattle.limbo_locals.proofs.variables.push_variables.Given as goal

abbrev pub invariant-loop-name : goal.invariant-loop-name
invariant-loop-name l = Pushed l.initial.variables.items l.variables.items l.pushed.items l.names (view_ty l.t) l.name-index
