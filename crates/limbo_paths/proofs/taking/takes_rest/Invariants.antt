use Rattle.std.proofs.Common.{◌≡◌, drop, map}
use Rattle.limbo_typed.specs.View.{view_case_arm, heads_of}
use Rattle.limbo_paths.specs.Walking.{takes_rest}
use Rattle.limbo_paths.proofs.taking.takes_rest.Given as goal

abbrev pub invariant-loop-arm : goal.invariant-loop-arm
invariant-loop-arm l = takes_rest (heads_of (map view_case_arm (drop l.arm-index l.arms))) ≡ takes_rest (heads_of (map view_case_arm l.arms))
