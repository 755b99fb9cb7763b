use Rattle.std.proofs.Common.{◌≡◌, ◌≤◌, ◌*◌, ◌+◌, ◌++◌, length, drop}
use Rattle.limbo_typed.specs.View.{view_stmt, view_stmts}
use Rattle.typed_lower.specs.Sizes.{stmt_nodes, stmts_nodes}
use Rattle.typed_lower.specs.Statements.{stmts_code}
use Rattle.slot_writing.specs.Loops.{arounds_at, types_of}
use Rattle.slot_writing.specs.Written.{written}
use Rattle.slot_writing.proofs.statements.+statements.Given as goal

abbrev pub decreases-emit_stmt : goal.decreases-emit_stmt
decreases-emit_stmt l = stmt_nodes (view_stmt l.s.now) * 4

abbrev pub decreases-emit_stmts : goal.decreases-emit_stmts
decreases-emit_stmts l = stmts_nodes (view_stmts l.body.now) * 4 + 1

abbrev pub decreases-emit_if : goal.decreases-emit_if
decreases-emit_if l = (stmts_nodes (view_stmts l.then.now) + stmts_nodes (view_stmts l.other.now)) * 4 + 2

abbrev pub decreases-emit_turns : goal.decreases-emit_turns
decreases-emit_turns l = stmts_nodes (view_stmts l.body.now) * 4 + 2

abbrev pub decreases-emit_do : goal.decreases-emit_do
decreases-emit_do l = stmts_nodes (view_stmts l.body.now) * 4 + 2

abbrev pub decreases-emit_while : goal.decreases-emit_while
decreases-emit_while l = stmts_nodes (view_stmts l.body.now) * 4 + 3

abbrev pub decreases-emit_for : goal.decreases-emit_for
decreases-emit_for l = stmts_nodes (view_stmts l.body.now) * 4 + 3

abbrev pub invariant-emit_stmts-loop-i : goal.invariant-emit_stmts-loop-i
invariant-emit_stmts-loop-i l = record {
  done : written l.code.items
      ≡ stmts_code (types_of l.variables) (arounds_at (length l.fn.code.items) l.around) (view_stmts (drop l.i l.body))
      ++ written l.fn.code.items;
  within : l.i ≤ length l.body;
}

abbrev pub decreases-emit_stmts-loop-i : goal.decreases-emit_stmts-loop-i
decreases-emit_stmts-loop-i l = l.i
