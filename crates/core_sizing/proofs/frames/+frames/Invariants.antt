use Rattle.std.proofs.Common.{drop, map, ◌≤◌, ◌↔◌, ◌*◌, ◌+◌}
use Rattle.limbo_layout.specs.View.{view_defs}
use Rattle.limbo_typed.specs.View.{view_stmts, view_var}
use Rattle.limbo_typed.proofs.stmt.TStmt.TheLaws.{the_size}
use Rattle.core_frames.specs.Sizes.{stmts_size, types_in}
use Rattle.core_sizing.proofs.frames.+frames.Given as goal
use denote.Param.Weighed.{most}

abbrev pub decreases-stmt_fits : goal.decreases-stmt_fits
decreases-stmt_fits l = the_size l.s.now * 8

abbrev pub decreases-stmts_fit : goal.decreases-stmts_fit
decreases-stmts_fit l = most the_size l.body.now * 8 + 1

abbrev pub invariant-stmts_fit-loop-s : goal.invariant-stmts_fit-loop-s
invariant-stmts_fit-loop-s l =
    (stmts_size (view_defs l.extents) (types_in (map view_var l.variables)) (view_stmts l.body) ≤ l.budget)
    ↔ (stmts_size (view_defs l.extents) (types_in (map view_var l.variables)) (view_stmts (drop l.s-index l.body)) ≤ l.budget)
