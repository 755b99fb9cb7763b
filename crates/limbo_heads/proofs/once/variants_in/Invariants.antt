use Rattle.std.proofs.Common.{◌≡◌, map, take}
use Rattle.limbo_typed.specs.View.{view_pick_arm, heads_of}
use Rattle.limbo_stmt_values.specs.limbo_stating.Picks.{all_variants}
use Rattle.limbo_heads.specs.Singles.{singles}
use Rattle.limbo_heads.proofs.once.variants_in.Given as goal

abbrev pub invariant-loop-arm : goal.invariant-loop-arm
invariant-loop-arm l = l.labels.items ≡ singles (all_variants (heads_of (map view_pick_arm (take l.arm-index l.arms))))
