use Rattle.std.proofs.Common.{◌≡◌, take, map}
use Rattle.limbo_types.specs.View.{view_ty}
use Rattle.limbo_functions.proofs.sameness.are_equal.Given as goal

abbrev pub invariant-loop-place : goal.invariant-loop-place
invariant-loop-place l = map view_ty (take l.place l.types) ≡ map view_ty (take l.place l.others)
