use Rattle.std.proofs.Common.{map}
use Rattle.limbo_types.specs.View.{view_ty}
use Rattle.limbo_typed.specs.View.{view_exprs}
use Rattle.limbo_arguments.proofs.Each.{EachSoFar}
use Rattle.limbo_arguments.proofs.argument.settle_each.Given as goal

abbrev pub invariant-loop-value : goal.invariant-loop-value
invariant-loop-value l =
    EachSoFar (view_ty l.whole) (map view_ty l.asked) (view_exprs l.fn.values.items) (map view_ty l.rest) l.value-items l.value-index
