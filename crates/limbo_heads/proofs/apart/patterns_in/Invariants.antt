use Rattle.std.proofs.Common.{◌≡◌, map, take}
use Rattle.limbo_typed.specs.View.{view_case_arm, heads_of}
use Rattle.limbo_stmt_values.specs.limbo_stating.Cases.{all_patterns}
use Rattle.limbo_heads.proofs.apart.patterns_in.Given as goal

abbrev pub invariant-loop-arm : goal.invariant-loop-arm
invariant-loop-arm l = map (λ p. p.now) l.all.items ≡ all_patterns (heads_of (map view_case_arm (take l.arm-index l.arms)))
