use Rattle.std.proofs.Common.{arith, ◌∙◌}
use Rattle.limbo_tree.proofs.Exprs.{view_expr-Group, view_expr-Unary, view_expr-Binary}
use Rattle.limbo_constants.proofs.Others.{only_leaf, not_one}
use Rattle.limbo_constants.proofs.evaluating.+finding.Goals as goal

pub find-returns-in_default : goal.find-returns-in_default
find-returns-in_default g t c =
    c.leaf.ensures
    ∙ only_leaf (g.K.Known.meant c.args.known.now) c.args.e.now c.in_default.not-Group c.in_default.not-Unary c.in_default.not-Binary

pub find_one-returns-then-items-ne1 : goal.find_one-returns-then-items-ne1
find_one-returns-then-items-ne1 g t c = not_one (g.K.Known.meant c.args.known.now) c.args.items.now c.if-items-ne1.true

pub find-returns-in-Group : goal.find-returns-in-Group
find-returns-in-Group g t c = grind (arith, view_expr-Group)

pub find-returns-in_ok-operand-in-Unary : goal.find-returns-in_ok-operand-in-Unary
find-returns-in_ok-operand-in-Unary g t c = grind (arith, view_expr-Unary)

pub find-returns-in_ok-right-in-Binary : goal.find-returns-in_ok-right-in-Binary
find-returns-in_ok-right-in-Binary g t c = grind (arith, view_expr-Binary)
