use Rattle.std.proofs.Common.{Option, sym, ap, ◌∙◌}
use Rattle.limbo_types.specs.View.{view_ty}
use Rattle.limbo_typed.specs.View.{view_expr, view_node, view_place, view_pattern, view_exprs, view_optional}
use Rattle.limbo_typed.proofs.View.{view_node-Lazy, view_node-Assign, view_node-Update, view_node-Print}
use Rattle.typed_meaning.specs.Trees.{Lazy, Place}
use Rattle.typed_meaning.specs.Program.{term_of, node_of, printed_of, place_of, place_to, printing}
use Rattle.slot_writing.specs.Terms.{view_variable}
use Rattle.slot_writing.specs.Terms as terms
use Rattle.slot_writing.proofs.terms.node_of.Goals as goal

pub returns-in-Lazy : goal.returns-in-Lazy
returns-in-Lazy c =
    let k = c.in-Lazy.connective in
    ap (λ x. Lazy k (term_of (view_expr x)) (term_of (view_expr c.deref-in-Lazy-2.result.now))) c.deref-in-Lazy.ensures
    ∙ ap (λ x. Lazy k (term_of (view_expr c.in-Lazy.left.value)) (term_of (view_expr x))) c.deref-in-Lazy-2.ensures
    ∙ ap (node_of (view_ty c.args.ty.now)) (sym (ap view_node c.in-Lazy.is ∙ view_node-Lazy k c.in-Lazy.left c.in-Lazy.right))

pub returns-in-Assign : goal.returns-in-Assign
returns-in-Assign c =
    c.stored.ensures
    ∙ ap (λ (p : Option Place). terms.stored p (term_of (view_expr c.deref-in-Assign-2.result.now)))
    (c.variable_to.ensures ∙ ap (λ x. place_to (view_pattern x)) c.deref-in-Assign.ensures)
    ∙ ap (λ x. terms.stored (place_to (view_pattern c.in-Assign.pattern.value)) (term_of (view_expr x))) c.deref-in-Assign-2.ensures
    ∙ ap (node_of (view_ty c.args.ty.now)) (sym (ap view_node c.in-Assign.is ∙ view_node-Assign c.in-Assign.pattern c.in-Assign.value))

pub returns-in-Update : goal.returns-in-Update
returns-in-Update c =
    let o = c.in-Update.operation in
    c.updated.ensures
    ∙ ap (λ (p : Option Place). terms.updated o p (term_of (view_expr c.deref-in-Update-2.result.now)))
    (c.variable_in-in-Update.ensures ∙ ap (λ x. place_of (view_place x)) c.deref-in-Update.ensures)
    ∙ ap (λ x. terms.updated o (place_of (view_place c.in-Update.place.value)) (term_of (view_expr x))) c.deref-in-Update-2.ensures
    ∙ ap (node_of (view_ty c.args.ty.now)) (sym (ap view_node c.in-Update.is ∙ view_node-Update o c.in-Update.place c.in-Update.value))

pub returns-in-Print : goal.returns-in-Print
returns-in-Print c =
    let w = c.in-Print.printed in
    let file = c.in-Print.file in
    c.printing.ensures
    ∙ ap (λ ps. printing w (view_optional file) ps (printed_of (view_exprs c.deref-in-Print-2.result.now))) c.deref-in-Print.ensures.value
    ∙ ap (λ es. printing w (view_optional file) c.in-Print.format.items (printed_of (view_exprs es))) c.deref-in-Print-2.ensures.value
    ∙ ap (node_of (view_ty c.args.ty.now)) (sym (ap view_node c.in-Print.is
    ∙ view_node-Print w c.in-Print.module file c.in-Print.format c.in-Print.args))
