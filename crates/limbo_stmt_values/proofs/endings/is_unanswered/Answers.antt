use Rattle.std.proofs.Common.{◌≡◌, sym, ap, ◌∙◌}
use Rattle.limbo_types.specs.Types.{Nothing}
use Rattle.limbo_types.specs.View.{view_ty}
use Rattle.limbo_typed.specs.Sound.{is_call}
use Rattle.limbo_typed.specs.View.{view_expr, view_node}
use Rattle.limbo_typed.proofs.View.{view_expr-out}
use Rattle.limbo_stmt_values.proofs.Told.{type_is, untrue, only_nothing}
use Rattle.limbo_stmt_values.proofs.Nodes.{same_call}
use Rattle.limbo_stmt_values.proofs.endings.is_unanswered.Goals as goal

pub returns-then-not-has_answer : goal.returns-then-not-has_answer
returns-then-not-has_answer c =
    let x = c.args.x.now in
    let none : view_ty x.ty ≡ Nothing =
    only_nothing x.ty
    (λ m. untrue c.has_answer.result _ c.if-not-has_answer.true c.has_answer.ensures (λ e. m (type_is x ∙ e)))
    in
    let call : is_call (view_expr x) ≡ c.calls.result =
    ap is_call (view_expr-out x) ∙ same_call (view_ty x.ty) Nothing (view_node x.node) ∙ sym c.calls.ensures in
    (λ t. (call ∙ t, sym (type_is x) ∙ none), λ h. sym call ∙ h.0)
