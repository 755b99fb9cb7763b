use Rattle.std.proofs.Common.{◌≡◌, ◌*◌, ◌+◌, max, drop}
use Rattle.limbo_typed.proofs.stmt.TStmt.TheLaws.{the_size}
use Rattle.limbo_typed.specs.View.{view_stmts}
use Rattle.typed_part.specs.Part.{are_stmts}
use Rattle.typed_part.specs.Seen.{view_inside, depth}
use Rattle.typed_part.proofs.statements.+statements.Given as goal
use denote.Param.Weighed.{most}

abbrev pub decreases-is_stmt : goal.decreases-is_stmt
decreases-is_stmt l = the_size l.s.now * 8

abbrev pub decreases-are_stmts : goal.decreases-are_stmts
decreases-are_stmts l = most the_size l.ss.now * 8 + 1

abbrev pub decreases-is_body : goal.decreases-is_body
decreases-is_body l = most the_size l.body.now * 8 + 2

abbrev pub decreases-is_for : goal.decreases-is_for
decreases-is_for l = most the_size l.body.now * 8 + 3

abbrev pub decreases-is_choice : goal.decreases-is_choice
decreases-is_choice l = max (most the_size l.then.now) (most the_size l.other.now) * 8 + 2

abbrev pub invariant-are_stmts-loop-s : goal.invariant-are_stmts-loop-s
invariant-are_stmts-loop-s l =
    are_stmts (view_inside l.inside) (depth l.loops) (view_stmts (drop l.s-index l.ss))
    ≡ are_stmts (view_inside l.inside) (depth l.loops) (view_stmts l.ss)
