use Rattle.limbo_types.specs.View.{view_ty}
use Rattle.limbo_typed.specs.View.{view_exprs}
use Rattle.limbo_arguments.proofs.Each.{AllSoFar}
use Rattle.limbo_arguments.proofs.argument.settle_all.Given as goal

abbrev pub invariant-loop-value : goal.invariant-loop-value
invariant-loop-value l = AllSoFar (view_ty l.asked) (view_exprs l.fn.values.items) l.value-items l.value-index
