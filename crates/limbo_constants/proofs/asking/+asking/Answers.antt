use Rattle.std.proofs.Common.{arith, ◌++◌, sym, ap, ◌∙◌, append-nil}
use Rattle.limbo_tree.proofs.Exprs.{view_expr-Name, view_expr-Arrow, view_expr-Dot, view_expr-Group, view_expr-Unary, view_expr-Binary}
use Rattle.limbo_constants.specs.View.{view_parts}
use Rattle.limbo_constants.proofs.Others.{behind, not_asked, none_asked}
use Rattle.limbo_constants.proofs.asking.+asking.Goals as goal

pub ask-returns-in_default : goal.ask-returns-in_default
ask-returns-in_default t c =
    let nothing = not_asked c.args.e.now c.in_default.not-Name c.in_default.not-Arrow c.in_default.not-Dot c.in_default.not-Group
    c.in_default.not-Unary c.in_default.not-Binary in
    sym (ap (λ ys. view_parts c.args.parts.items ++ ys) nothing ∙ append-nil (view_parts c.args.parts.items))

pub ask_one-returns-then-items-ne1 : goal.ask_one-returns-then-items-ne1
ask_one-returns-then-items-ne1 t c =
    sym (ap (λ ys. view_parts c.args.parts.items ++ ys) (none_asked c.args.items.now c.if-items-ne1.true)
    ∙ append-nil (view_parts c.args.parts.items))

pub ask-returns-in-Name : goal.ask-returns-in-Name
ask-returns-in-Name t c = grind (arith, view_expr-Name)

pub ask-returns-in-Arrow : goal.ask-returns-in-Arrow
ask-returns-in-Arrow t c = grind (arith, view_expr-Arrow)

pub ask-returns-in-Dot : goal.ask-returns-in-Dot
ask-returns-in-Dot t c = grind (arith, view_expr-Dot)

pub ask-returns-in-Group : goal.ask-returns-in-Group
ask-returns-in-Group t c = grind (arith, view_expr-Group)

pub ask-returns-in-Unary : goal.ask-returns-in-Unary
ask-returns-in-Unary t c = grind (arith, view_expr-Unary)

pub ask-returns-in_ok-parts-in-Binary : goal.ask-returns-in_ok-parts-in-Binary
ask-returns-in_ok-parts-in-Binary t c = grind (arith, view_expr-Binary, behind)
