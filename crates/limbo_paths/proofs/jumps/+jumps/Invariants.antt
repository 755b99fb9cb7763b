use Rattle.std.proofs.Common.{◌≡◌, ℕ, map, drop}
use Rattle.limbo_typed.specs.View.{view_stmt, view_case_arm, view_alt_arm, view_pick_arm, view_handler_arm, stmts_of, bodies_of}
use Rattle.limbo_paths.specs.Walking.{IsLevel, has_any, has_in}
use Rattle.limbo_paths.proofs.jumps.+jumps.Given as goal

abbrev pub invariant-alt_has-loop-arm : goal.invariant-alt_has-loop-arm
invariant-alt_has-loop-arm l =
    (n : ℕ) → IsLevel l.level n
    → has_in l.jump n (bodies_of (map view_alt_arm (drop l.arm-index l.arms))) ≡ has_in l.jump n (bodies_of (map view_alt_arm l.arms))

abbrev pub invariant-any_has-loop-s : goal.invariant-any_has-loop-s
invariant-any_has-loop-s l =
    (n : ℕ) → IsLevel l.level n
    → has_any l.jump n (stmts_of (map view_stmt (drop l.s-index l.ss))) ≡ has_any l.jump n (stmts_of (map view_stmt l.ss))

abbrev pub invariant-case_has-loop-arm : goal.invariant-case_has-loop-arm
invariant-case_has-loop-arm l =
    (n : ℕ) → IsLevel l.level n
    → has_in l.jump n (bodies_of (map view_case_arm (drop l.arm-index l.arms))) ≡ has_in l.jump n (bodies_of (map view_case_arm l.arms))

abbrev pub invariant-handler_has-loop-arm : goal.invariant-handler_has-loop-arm
invariant-handler_has-loop-arm l =
    (n : ℕ) → IsLevel l.level n
    → has_in l.jump n (bodies_of (map view_handler_arm (drop l.arm-index l.arms)))
    ≡ has_in l.jump n (bodies_of (map view_handler_arm l.arms))

abbrev pub invariant-pick_has-loop-arm : goal.invariant-pick_has-loop-arm
invariant-pick_has-loop-arm l =
    (n : ℕ) → IsLevel l.level n
    → has_in l.jump n (bodies_of (map view_pick_arm (drop l.arm-index l.arms))) ≡ has_in l.jump n (bodies_of (map view_pick_arm l.arms))
