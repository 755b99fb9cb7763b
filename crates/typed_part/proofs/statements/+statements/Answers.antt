use Rattle.std.proofs.Common.{arith}
use Rattle.limbo_typed.proofs.View.{view_stmt-Empty, view_stmt-Block, view_stmt-Declare, view_stmt-Eval, view_stmt-If, view_stmt-While}
use Rattle.limbo_typed.proofs.View.{view_stmt-Do, view_stmt-For, view_stmt-Break, view_stmt-Continue, view_stmt-Return}
use Rattle.typed_part.specs.Seen.{view_inside, depth}
use Rattle.typed_part.proofs.Others.{no_stmt}
use Rattle.typed_part.proofs.statements.+statements.Goals as goal

pub is_stmt-returns-in-Empty : goal.is_stmt-returns-in-Empty
is_stmt-returns-in-Empty t c = grind (arith, view_stmt-Empty)

pub is_stmt-returns-in-Block : goal.is_stmt-returns-in-Block
is_stmt-returns-in-Block t c = grind (arith, view_stmt-Block)

pub is_stmt-returns-in-Declare : goal.is_stmt-returns-in-Declare
is_stmt-returns-in-Declare t c = grind (arith, view_stmt-Declare)

pub is_stmt-returns-in-Eval : goal.is_stmt-returns-in-Eval
is_stmt-returns-in-Eval t c = grind (arith, view_stmt-Eval)

pub is_stmt-returns-in-If : goal.is_stmt-returns-in-If
is_stmt-returns-in-If t c = grind (arith, view_stmt-If)

pub is_stmt-returns-in-For : goal.is_stmt-returns-in-For
is_stmt-returns-in-For t c = grind (arith, view_stmt-For)

pub is_stmt-returns-in-Break : goal.is_stmt-returns-in-Break
is_stmt-returns-in-Break t c = grind (arith, view_stmt-Break)

pub is_stmt-returns-in-Continue : goal.is_stmt-returns-in-Continue
is_stmt-returns-in-Continue t c = grind (arith, view_stmt-Continue)

pub is_stmt-returns-in-Return : goal.is_stmt-returns-in-Return
is_stmt-returns-in-Return t c = grind (arith, view_stmt-Return)

pub is_stmt-returns-in_default : goal.is_stmt-returns-in_default
is_stmt-returns-in_default t c =
    let d = c.in_default in
    no_stmt (view_inside c.args.inside) (depth c.args.loops) c.args.s.now d.not-Empty d.not-Block d.not-Declare d.not-Eval d.not-If
    d.not-While d.not-Do d.not-For d.not-Break d.not-Continue d.not-Return

pub is_stmt-returns-then-is_test : goal.is_stmt-returns-then-is_test
is_stmt-returns-then-is_test t c = grind (arith, view_stmt-While)

pub is_stmt-returns-else-is_test : goal.is_stmt-returns-else-is_test
is_stmt-returns-else-is_test t c = grind (arith, view_stmt-While)

pub is_stmt-returns-then-is_body : goal.is_stmt-returns-then-is_body
is_stmt-returns-then-is_body t c = grind (arith, view_stmt-Do)

pub is_stmt-returns-else-is_body : goal.is_stmt-returns-else-is_body
is_stmt-returns-else-is_body t c = grind (arith, view_stmt-Do)
