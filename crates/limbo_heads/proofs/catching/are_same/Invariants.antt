use Rattle.std.proofs.Common.{ℕ, ◌<◌, ◌≡◌, map, slice_get}
use Rattle.limbo_types.specs.View.{view_ty}
use Rattle.limbo_heads.proofs.catching.are_same.Given as goal

abbrev pub invariant-loop-i : goal.invariant-loop-i
invariant-loop-i l =
    (k : ℕ) → k < l.i → slice_get (map view_ty l.ts) k ≡ slice_get (map view_ty l.us) k
