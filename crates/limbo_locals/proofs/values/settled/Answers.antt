use Rattle.std.proofs.Common.{sym, ap}
use Rattle.limbo_types.specs.View.{view_ty}
use Rattle.limbo_typed.specs.Sound.{type_of}
use Rattle.limbo_typed.proofs.View.{view_expr-out}
use Rattle.limbo_refusals.specs.Refusals.{Clash}
use Rattle.limbo_causes.specs.Causes.{Refused}
use Rattle.limbo_locals.proofs.Rules.{untrue, clash_fails}
use Rattle.limbo_locals.proofs.values.settled.Goals as goal

pub returns-else-is_settled-clause-refused : goal.returns-else-is_settled-clause-refused
returns-else-is_settled-clause-refused c =
    clash_fails c.clash_of.result c.refused.result.cause (Clash (view_ty c.args.x.now.ty) (view_ty c.args.x.now.ty)) _ c.refused.ensures
    c.clash_of.ensures (
      ap (λ t. Refused (Clash t t)) (sym (ap type_of (view_expr-out c.args.x.now))),
      untrue c.is_settled.result _ c.if-is_settled.false c.is_settled.ensures,
    )
