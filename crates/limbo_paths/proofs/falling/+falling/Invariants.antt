use Rattle.std.proofs.Common.{◌≡◌, map, drop}
use Rattle.limbo_layout.specs.View.{view_defs}
use Rattle.limbo_typed.specs.View.{view_stmt, view_case_arm, view_alt_arm, view_pick_arm, view_handler_arm, stmts_of, bodies_of}
use Rattle.limbo_paths.specs.Walking.{all_fall, some_falls}
use Rattle.limbo_paths.proofs.falling.+falling.Given as goal

abbrev pub invariant-all_fall-loop-s : goal.invariant-all_fall-loop-s
invariant-all_fall-loop-s l =
    all_fall (view_defs l.defs) (stmts_of (map view_stmt (drop l.s-index l.ss))) ≡ all_fall (view_defs l.defs) (stmts_of (map view_stmt l.ss))

abbrev pub invariant-case_falls-loop-arm : goal.invariant-case_falls-loop-arm
invariant-case_falls-loop-arm l =
    some_falls (view_defs l.defs) (bodies_of (map view_case_arm (drop l.arm-index l.arms)))
    ≡ some_falls (view_defs l.defs) (bodies_of (map view_case_arm l.arms))

abbrev pub invariant-alt_falls-loop-arm : goal.invariant-alt_falls-loop-arm
invariant-alt_falls-loop-arm l =
    some_falls (view_defs l.defs) (bodies_of (map view_alt_arm (drop l.arm-index l.arms)))
    ≡ some_falls (view_defs l.defs) (bodies_of (map view_alt_arm l.arms))

abbrev pub invariant-pick_falls-loop-arm : goal.invariant-pick_falls-loop-arm
invariant-pick_falls-loop-arm l =
    some_falls (view_defs l.defs) (bodies_of (map view_pick_arm (drop l.arm-index l.arms)))
    ≡ some_falls (view_defs l.defs) (bodies_of (map view_pick_arm l.arms))

abbrev pub invariant-handler_falls-loop-arm : goal.invariant-handler_falls-loop-arm
invariant-handler_falls-loop-arm l =
    some_falls (view_defs l.defs) (bodies_of (map view_handler_arm (drop l.arm-index l.arms)))
    ≡ some_falls (view_defs l.defs) (bodies_of (map view_handler_arm l.arms))
