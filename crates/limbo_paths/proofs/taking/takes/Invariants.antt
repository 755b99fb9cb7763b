use Rattle.std.proofs.Common.{◌≡◌, drop, map}
use Rattle.limbo_typed.specs.View.{view_pick_arm, heads_of}
use Rattle.limbo_paths.specs.Walking.{takes}
use Rattle.limbo_paths.proofs.taking.takes.Given as goal

abbrev pub invariant-loop-arm : goal.invariant-loop-arm
invariant-loop-arm l =
    takes l.variant (heads_of (map view_pick_arm (drop l.arm-index l.arms))) ≡ takes l.variant (heads_of (map view_pick_arm l.arms))
