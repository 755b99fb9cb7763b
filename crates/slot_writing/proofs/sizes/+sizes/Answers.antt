use Rattle.std.proofs.Common.{arith, ap, ◌∙◌}
use Rattle.std.proofs.lemmas.Grind.{common_steps}
use Rattle.limbo_typed.specs.View.{view_expr, view_exprs, view_node}
use Rattle.limbo_typed.proofs.View.{view_node-Lazy, view_node-Update, view_node-Print, view_node-Load}
use Rattle.typed_lower.specs.Sizes.{expr_size, exprs_size, inner_size}
use Rattle.slot_writing.proofs.Others.{no_size}
use Rattle.slot_writing.proofs.sizes.+sizes.Goals as goal

pub node_leaves-returns-in_ok-rest-in-Lazy : goal.node_leaves-returns-in_ok-rest-in-Lazy
node_leaves-returns-in_ok-rest-in-Lazy t c =
    let size = ap inner_size (ap view_node c.in-Lazy.is ∙ view_node-Lazy c.in-Lazy.connective c.in-Lazy.left c.in-Lazy.right) in
    let left = ap (λ x. expr_size (view_expr x)) c.deref-in-Lazy.ensures in
    let right = ap (λ x. expr_size (view_expr x)) c.deref-in-Lazy-2.ensures in
    grind (arith, common_steps)

pub node_leaves-returns-in_ok-rest-in-Update : goal.node_leaves-returns-in_ok-rest-in-Update
node_leaves-returns-in_ok-rest-in-Update t c =
    let size = ap inner_size (ap view_node c.in-Update.is ∙ view_node-Update c.in-Update.operation c.in-Update.place c.in-Update.value) in
    let value = ap (λ x. expr_size (view_expr x)) c.deref-in-Update.ensures in
    grind (arith, common_steps)

pub node_leaves-returns-in_ok-rest-in-Print : goal.node_leaves-returns-in_ok-rest-in-Print
node_leaves-returns-in_ok-rest-in-Print t c =
    let size = ap inner_size (ap view_node c.in-Print.is
    ∙ view_node-Print c.in-Print.printed c.in-Print.module c.in-Print.file c.in-Print.format c.in-Print.args) in
    let args = ap (λ xs. exprs_size (view_exprs xs)) c.deref-in-Print.ensures.value in
    grind (arith, common_steps)

pub node_leaves-returns-in-Load : goal.node_leaves-returns-in-Load
node_leaves-returns-in-Load t c =
    let size = ap inner_size (ap view_node c.in-Load.is ∙ view_node-Load c.in-Load.interface c.in-Load.path) in
    let path = ap (λ x. expr_size (view_expr x)) c.deref-in-Load.ensures in
    grind (arith, common_steps)

pub node_leaves-returns-in_default : goal.node_leaves-returns-in_default
node_leaves-returns-in_default t c =
    let d = c.in_default in
    let none = no_size c.args.node.now d.not-Apply d.not-Lazy d.not-Assign d.not-Update d.not-Step d.not-Call d.not-Print d.not-Load in
    omega (arith, none)
