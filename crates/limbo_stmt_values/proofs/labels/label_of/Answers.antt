use Rattle.std.proofs.Common.{sym, ◌∙◌}
use Rattle.limbo_types.specs.View.{view_ty}
use Rattle.limbo_typed.specs.View.{view_expr}
use Rattle.limbo_stmt_values.proofs.Told.{type_is, untrue, if_ok, if_err}
use Rattle.limbo_stmt_values.proofs.Rules.{no_constant, other_label}
use Rattle.limbo_stmt_values.proofs.labels.label_of.Goals as goal

pub returns-then-equal-clause-of : goal.returns-then-equal-clause-of
returns-then-equal-clause-of c =
    if_ok c.constant_of.result _ _ (λ v h. sym (type_is c.args.x.now) ∙ c.equal.ensures.0 c.if-equal.true) c.constant_of.ensures.known

pub returns-then-equal-clause-refused : goal.returns-then-equal-clause-refused
returns-then-equal-clause-refused c =
    if_err c.constant_of.result _ _ (λ f h. no_constant (view_ty c.args.t.now) (view_expr c.args.x.now) f.why h)
    c.constant_of.ensures.refused

pub returns-else-equal-clause-refused : goal.returns-else-equal-clause-refused
returns-else-equal-clause-refused c =
    other_label (view_ty c.args.t.now) (view_expr c.args.x.now) c.clash.result.cause c.part_fault.result.why c.part_fault.ensures
    (λ h. untrue c.equal.result _ c.if-equal.false c.equal.ensures (type_is c.args.x.now ∙ h)) c.clash.ensures
