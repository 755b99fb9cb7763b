use Rattle.std.proofs.Common.{◌≡◌, drop}
use Rattle.limbo_types.specs.View.{view_tys}
use Rattle.limbo_adts.specs.Reading.{all_alike}
use Rattle.limbo_adts.proofs.alike.+alike.Given as goal

abbrev pub invariant-all_alike-loop-t : goal.invariant-all_alike-loop-t
invariant-all_alike-loop-t l = all_alike (view_tys (drop l.t-index l.ts)) (view_tys l.rest) ≡ all_alike (view_tys l.ts) (view_tys l.us)
