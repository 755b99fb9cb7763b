use Rattle.std.proofs.Common.{drop, ◌≤◌, ◌↔◌, ◌*◌, ◌+◌}
use Rattle.limbo_typed.specs.View.{view_stmts}
use Rattle.limbo_typed.proofs.stmt.TStmt.TheLaws.{the_size}
use Rattle.typed_lower.specs.Sizes.{stmts_size}
use Rattle.slot_writing.proofs.sizes.+frames.Given as goal
use denote.Param.Weighed.{most}

abbrev pub decreases-stmt_fits : goal.decreases-stmt_fits
decreases-stmt_fits l = the_size l.s.now * 8

abbrev pub decreases-stmts_fit : goal.decreases-stmts_fit
decreases-stmts_fit l = most the_size l.body.now * 8 + 1

abbrev pub invariant-stmts_fit-loop-s : goal.invariant-stmts_fit-loop-s
invariant-stmts_fit-loop-s l = (stmts_size (view_stmts l.body) ≤ l.budget) ↔ (stmts_size (view_stmts (drop l.s-index l.body)) ≤ l.budget)
