use Rattle.std.proofs.Common.{◌≡◌, ◌+◌, drop}
use Rattle.limbo_types.specs.View.{view_tys}
use Rattle.limbo_permits.specs.Permits.{all_nodes}
use Rattle.limbo_permits.proofs.counting.+counting.Given as goal

abbrev pub invariant-left_of_all-loop-t : goal.invariant-left_of_all-loop-t
invariant-left_of_all-loop-t l = l.rest + all_nodes (view_tys l.ts) ≡ l.left + all_nodes (view_tys (drop l.t-index l.ts))
