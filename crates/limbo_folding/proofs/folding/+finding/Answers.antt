use Rattle.std.proofs.Common.{Option, sym, ap, ◌∙◌, arith}
use Rattle.std.proofs.lemmas.Result.{IfOk-weaker}
use Rattle.limbo_typed.specs.View.{view_expr}
use Rattle.limbo_typed.proofs.View.{view_expr-out, view_node-Number, view_node-Chars, view_node-Apply, view_node-Lazy}
use Rattle.limbo_folding.specs.declared.outcome.Outcome.{Outcome}
use Rattle.limbo_folding.specs.Folding as folding
use Rattle.limbo_folding.proofs.Forms.{not_constant, one_operand, two_operands, other_operands}
use Rattle.limbo_folding.proofs.folding.+finding.Goals as goal

pub find-returns-in_default : goal.find-returns-in_default
find-returns-in_default t c =
    not_constant c.args.e.now c.in_default.not-Number c.in_default.not-Chars c.in_default.not-Apply c.in_default.not-Lazy

pub find_applied-returns-in_ok-operand-in-1 : goal.find_applied-returns-in_ok-operand-in-1
find_applied-returns-in_ok-operand-in-1 t c =
    let h = one_operand c.args.operation c.args.args.now c.index-args-0.result (sym c.if-not-folds.ensures) c.in-1.is c.index-args-0.is in
    c.with_one.ensures ∙ ap (λ (z : Option Outcome). folding.with_one c.args.operation z) c.in_ok-operand-in-1.ensures ∙ h

pub find_applied-returns-in_ok-right-in-2 : goal.find_applied-returns-in_ok-right-in-2
find_applied-returns-in_ok-right-in-2 t c =
    let h = two_operands c.args.operation c.args.args.now c.index-args-0-in-2.result c.index-args-1.result (sym c.if-not-folds.ensures) c.in-2.is
    c.index-args-0-in-2.is c.index-args-1.is in
    IfOk-weaker c.with_two.result _ _ (λ o e.
    e ∙ ap (λ (z : Option Outcome). folding.with_two c.args.operation z c.in_ok-right-in-2.right) c.in_ok-left-in-2.ensures
    ∙ ap (λ (z : Option Outcome). folding.with_two c.args.operation (folding.outcome (view_expr c.index-args-0-in-2.result)) z) c.in_ok-right-in-2.ensures ∙ h)
    c.with_two.ensures

pub find_applied-returns-in_default : goal.find_applied-returns-in_default
find_applied-returns-in_default t c = other_operands c.args.operation c.args.args.now (λ h. omega arith) (λ h. omega arith)

pub find-returns-in-Number : goal.find-returns-in-Number
find-returns-in-Number t c = grind (arith, view_expr-out, view_node-Number)

pub find-returns-in_ok-text-in-Chars : goal.find-returns-in_ok-text-in-Chars
find-returns-in_ok-text-in-Chars t c = grind (arith, view_expr-out, view_node-Chars)

pub find-returns-in-Apply : goal.find-returns-in-Apply
find-returns-in-Apply t c = grind (arith, view_expr-out, view_node-Apply)

pub find-returns-in_ok-right-in-Lazy : goal.find-returns-in_ok-right-in-Lazy
find-returns-in_ok-right-in-Lazy t c = grind (arith, view_expr-out, view_node-Lazy)
