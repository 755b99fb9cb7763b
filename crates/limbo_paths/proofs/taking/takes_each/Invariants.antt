use Rattle.std.proofs.Common.{◌≡◌, true, map}
use Rattle.limbo_typed.specs.View.{view_pick_arm, heads_of}
use Rattle.limbo_paths.specs.Walking.{takes_each}
use Rattle.limbo_paths.proofs.taking.takes_each.Given as goal

abbrev pub invariant-loop-variant : goal.invariant-loop-variant
invariant-loop-variant l = takes_each l.variant (heads_of (map view_pick_arm l.arms)) ≡ true
