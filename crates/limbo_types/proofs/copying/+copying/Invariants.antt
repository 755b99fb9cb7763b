use Rattle.std.proofs.Common.{◌≡◌, map, take}
use Rattle.limbo_types.specs.View.{view_ty}
use Rattle.limbo_types.proofs.copying.+copying.Given as goal

abbrev pub invariant-copy_all-loop-t : goal.invariant-copy_all-loop-t
invariant-copy_all-loop-t l = map view_ty l.copies.items ≡ map view_ty (take l.t-index l.ts)
