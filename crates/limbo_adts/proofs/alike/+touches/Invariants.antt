use Rattle.std.proofs.Common.{◌≡◌, drop}
use Rattle.limbo_types.specs.View.{view_ty, view_tys}
use Rattle.limbo_adts.specs.Reading.{any_touches}
use Rattle.limbo_adts.proofs.alike.+touches.Given as goal

abbrev pub invariant-any_touches-loop-t : goal.invariant-any_touches-loop-t
invariant-any_touches-loop-t l = any_touches (view_tys (drop l.t-index l.ts)) (view_ty l.u) ≡ any_touches (view_tys l.ts) (view_ty l.u)
