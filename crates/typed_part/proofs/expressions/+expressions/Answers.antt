use Rattle.std.proofs.Common.{arith, List, ap, sym, ◌∙◌}
use Rattle.limbo_types.specs.View.{view_ty}
use Rattle.limbo_typed.specs.declared.print.Piece.{Piece}
use Rattle.limbo_typed.specs.declared.expr.TExpr as code_expr
use Rattle.limbo_typed.specs.declared.expr.Place as code_place
use Rattle.limbo_typed.specs.Typed as tree
use Rattle.limbo_typed.specs.View.{view_expr, view_exprs, view_node, view_optional, view_place}
use Rattle.limbo_typed.proofs.View.{view_expr-out, view_node-Number, view_node-Read, view_node-Apply, view_node-Lazy, view_node-Assign}
use Rattle.limbo_typed.proofs.View.{view_node-Update, view_node-Step, view_node-Call}
use Rattle.typed_part.specs.Part as part
use Rattle.typed_part.specs.Seen.{view_inside}
use Rattle.typed_part.proofs.Others.{no_node}
use Rattle.typed_part.proofs.Types.{expr_type, place_type}
use Rattle.typed_part.proofs.Printing.{is_print_of, print_told, no_print_told}
use Rattle.typed_part.proofs.expressions.+expressions.Goals as goal

pub is_node-returns-in-Update : goal.is_node-returns-in-Update
is_node-returns-in-Update t c =
    c.is_update.ensures
    ∙ ap (λ (p : code_place.Place). part.is_node (view_inside c.args.inside) (view_ty c.args.t.now)
    (tree.Update c.in-Update.operation (view_place p) (view_expr c.deref-in-Update-2.result.now))) c.deref-in-Update.ensures
    ∙ ap (λ (e : code_expr.TExpr). part.is_node (view_inside c.args.inside) (view_ty c.args.t.now)
    (tree.Update c.in-Update.operation (view_place c.in-Update.place.value) (view_expr e))) c.deref-in-Update-2.ensures
    ∙ sym (ap (part.is_node (view_inside c.args.inside) (view_ty c.args.t.now))
    (ap view_node c.in-Update.is ∙ view_node-Update c.in-Update.operation c.in-Update.place c.in-Update.value))

pub is_node-returns-then-prints : goal.is_node-returns-then-prints
is_node-returns-then-prints t c =
    print_told (view_inside c.args.inside) (view_ty c.args.t.now) c.args.node.now c.in-Print.printed c.in-Print.module c.in-Print.file
    c.in-Print.format c.in-Print.args c.prints.result c.is_print_of.result c.in-Print.is
    (c.prints.ensures
    ∙ ap (λ (e : code_expr.TExpr). part.prints (view_inside c.args.inside) c.in-Print.printed (view_expr e)
    (view_optional c.in-Print.file)) c.deref-in-Print.ensures)
    c.if-prints.true
    (c.is_print_of.ensures
    ∙ ap (λ (ps : List Piece). is_print_of (view_inside c.args.inside) (view_ty c.args.t.now) ps
    (view_exprs c.deref-then-prints-2.result.now)) c.deref-then-prints.ensures.value
    ∙ ap (λ (es : List code_expr.TExpr). is_print_of (view_inside c.args.inside) (view_ty c.args.t.now) c.in-Print.format.items
    (view_exprs es)) c.deref-then-prints-2.ensures.value)

pub is_node-returns-else-prints : goal.is_node-returns-else-prints
is_node-returns-else-prints t c =
    no_print_told (view_inside c.args.inside) (view_ty c.args.t.now) c.args.node.now c.in-Print.printed c.in-Print.module c.in-Print.file
    c.in-Print.format c.in-Print.args c.prints.result c.in-Print.is
    (c.prints.ensures
    ∙ ap (λ (e : code_expr.TExpr). part.prints (view_inside c.args.inside) c.in-Print.printed (view_expr e)
    (view_optional c.in-Print.file)) c.deref-in-Print.ensures)
    c.if-prints.false

pub is_node-returns-in-Number : goal.is_node-returns-in-Number
is_node-returns-in-Number t c = grind (arith, view_node-Number)

pub is_node-returns-in-Read : goal.is_node-returns-in-Read
is_node-returns-in-Read t c = grind (arith, view_node-Read)

pub is_node-returns-in-Apply : goal.is_node-returns-in-Apply
is_node-returns-in-Apply t c = grind (arith, view_node-Apply)

pub is_node-returns-in-Lazy : goal.is_node-returns-in-Lazy
is_node-returns-in-Lazy t c = grind (arith, view_node-Lazy)

pub is_node-returns-in-Assign : goal.is_node-returns-in-Assign
is_node-returns-in-Assign t c = grind (arith, view_node-Assign)

pub is_node-returns-in-Step : goal.is_node-returns-in-Step
is_node-returns-in-Step t c = grind (arith, view_node-Step)

pub is_node-returns-in-Call : goal.is_node-returns-in-Call
is_node-returns-in-Call t c = grind (arith, view_node-Call)

pub is_node-returns-in_default : goal.is_node-returns-in_default
is_node-returns-in_default t c =
    let d = c.in_default in
    no_node (view_inside c.args.inside) (view_ty c.args.t.now) c.args.node.now d.not-Number d.not-Read d.not-Apply d.not-Lazy d.not-Assign
    d.not-Update d.not-Step d.not-Call d.not-Print

pub is_expr-returns : goal.is_expr-returns
is_expr-returns t c = grind (arith, view_expr-out)

pub is_lazy-returns-then-is_expr-2 : goal.is_lazy-returns-then-is_expr-2
is_lazy-returns-then-is_expr-2 t c = grind (arith, expr_type)

pub is_assigned-returns-then-is_expr : goal.is_assigned-returns-then-is_expr
is_assigned-returns-then-is_expr t c = grind (arith, expr_type)

pub is_update-returns-then-gives_of_two : goal.is_update-returns-then-gives_of_two
is_update-returns-then-gives_of_two t c = grind (arith, expr_type, place_type)

pub is_update-returns-else-gives_of_two : goal.is_update-returns-else-gives_of_two
is_update-returns-else-gives_of_two t c = grind (arith, expr_type, place_type)
