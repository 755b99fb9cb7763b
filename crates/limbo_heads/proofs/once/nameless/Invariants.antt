use Rattle.std.proofs.Common.{◌≡◌, take}
use Rattle.std.specs.Prelude.{count_by}
use Rattle.limbo_heads.specs.Singles.{names_none}
use Rattle.limbo_heads.proofs.once.nameless.Given as goal

abbrev pub invariant-loop-arm : goal.invariant-loop-arm
invariant-loop-arm l = l.count ≡ count_by names_none (take l.arm-index l.arms)
