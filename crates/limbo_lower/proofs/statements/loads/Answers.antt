use Rattle.std.proofs.Common.{◌≡◌, sym, ap, ◌∙◌}
use Rattle.limbo_types.specs.View.{view_ty}
use Rattle.limbo_typed.specs.Typed as typed
use Rattle.limbo_typed.specs.View.{view_expr, view_node, view_pattern}
use Rattle.limbo_typed.proofs.View.{view_expr-out, view_node-Assign}
use Rattle.limbo_lower.specs.Loops.{loads, is_some}
use Rattle.limbo_lower.proofs.Others.{loads_not}
use Rattle.limbo_lower.proofs.statements.loads.Goals as goal

pub returns-in_default-node : goal.returns-in_default-node
returns-in_default-node c =
    let e = c.args.e.now in
    let v = c.deref.result.now in
    let p = view_pattern c.in-Assign.pattern.value in
    let is : view_expr e ≡ typed.Of (view_ty e.ty) (typed.Assign p (typed.Of (view_ty v.ty) (view_node v.node))) =
    view_expr-out e ∙ ap (λ n. typed.Of (view_ty e.ty) n) (ap view_node c.in-Assign.is
    ∙ view_node-Assign c.in-Assign.pattern c.in-Assign.value
    ∙ ap (λ x. typed.Assign p x) (ap view_expr (sym c.deref.ensures) ∙ view_expr-out v)) in
    ap is_some (loads_not v.node p (view_ty v.ty) c.in_default-node.not-Load) ∙ sym (ap loads is)
