use Rattle.std.proofs.Common.{◌≤◌, ◌*◌, ◌+◌, [], ℕ, List, length, drop}
use Rattle.limbo_typed.specs.View.{view_stmt, view_stmts}
use Rattle.limbo_meaning.specs.Program.{all_before}
use Rattle.limbo_meaning.specs.Trees.{Block}
use Rattle.core_code.specs.Code.{Instr}
use Rattle.core_code.specs.Sizes.{stmt_nodes, stmts_nodes}
use Rattle.limbo_lower.specs.Loops.{Stands, defs_in, types_in}
use Rattle.limbo_lower.proofs.statements.+statements.Given as goal

abbrev pub decreases-emit_stmt : goal.decreases-emit_stmt
decreases-emit_stmt l = stmt_nodes [] (view_stmt l.s.now) * 5

abbrev pub decreases-emit_stmts : goal.decreases-emit_stmts
decreases-emit_stmts l = stmts_nodes [] (view_stmts l.body.now) * 5 + 1

abbrev pub decreases-emit_block : goal.decreases-emit_block
decreases-emit_block l = stmts_nodes [] (view_stmts l.body.now) * 5 + 2

abbrev pub decreases-emit_if : goal.decreases-emit_if
decreases-emit_if l = (stmts_nodes [] (view_stmts l.then.now) + stmts_nodes [] (view_stmts l.other.now)) * 5 + 3

abbrev pub decreases-emit_while : goal.decreases-emit_while
decreases-emit_while l = stmts_nodes [] (view_stmts l.body.now) * 5 + 3

abbrev pub decreases-emit_do : goal.decreases-emit_do
decreases-emit_do l = stmts_nodes [] (view_stmts l.body.now) * 5 + 3

abbrev pub decreases-emit_for : goal.decreases-emit_for
decreases-emit_for l = stmts_nodes [] (view_stmts l.body.now) * 5 + 4

abbrev pub invariant-emit_stmts-loop-i : goal.invariant-emit_stmts-loop-i
invariant-emit_stmts-loop-i l = record {
  done : (back : List Instr) (least : ℕ) (b : Block)
      → Stands (defs_in l.f) l.around.loops.now l.around.end back least b l.fn.out.code.items l.fn.out.slots
      → Stands (defs_in l.f) l.around.loops.now l.around.end back least (all_before (types_in l.f) (view_stmts (drop l.i l.body)) b)
      l.out.code.items l.out.slots;
  longer : length l.fn.out.code.items ≤ length l.out.code.items;
  begun : 1 ≤ l.out.slots;
  within : l.i ≤ length l.body;
}

abbrev pub decreases-emit_stmts-loop-i : goal.decreases-emit_stmts-loop-i
decreases-emit_stmts-loop-i l = l.i
