use Rattle.std.proofs.Common.{◌≡◌, take}
use Rattle.std.specs.Prelude.{count_by}
use Rattle.limbo_heads.specs.Singles.{waits_not}
use Rattle.limbo_heads.proofs.once.stars.Given as goal

abbrev pub invariant-loop-arm : goal.invariant-loop-arm
invariant-loop-arm l = l.count ≡ count_by waits_not (take l.arm-index l.arms)
