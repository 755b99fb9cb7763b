use Rattle.std.proofs.Common.{◌≡◌, drop}
use Rattle.limbo_types.specs.View.{view_tys}
use Rattle.limbo_types.specs.Same.{all_same}
use Rattle.limbo_types.proofs.sameness.+same.Given as goal

abbrev pub invariant-all_same-loop-t : goal.invariant-all_same-loop-t
invariant-all_same-loop-t l = all_same (view_tys (drop l.t-index l.ts)) (view_tys l.rest) ≡ all_same (view_tys l.ts) (view_tys l.us)
