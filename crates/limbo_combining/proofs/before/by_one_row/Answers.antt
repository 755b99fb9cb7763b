use Rattle.limbo_types.specs.View.{view_ty}
use Rattle.limbo_typed.specs.View.{view_expr}
use Rattle.limbo_operands.specs.limbo_standing.Standing.{Settles}
use Rattle.limbo_prefixes.specs.RowView.{view_one}
use Rattle.limbo_combining.proofs.Combined.{some_is, by_one_row_so}
use Rattle.limbo_combining.proofs.before.by_one_row.Goals as goal

pub returns-clause-given : goal.returns-clause-given
returns-clause-given c =
    by_one_row_so (view_one c.args.row.now) (view_expr c.args.operand.value) (view_expr c.in-Some.operand.value)
    (view_expr c.in_ok-applied_to.field-0.value)
    (some_is c.in_ok-operand.field-0 c.in-Some.operand
    (λ e. Settles (view_ty c.args.row.now.operand) (view_expr c.args.operand.value) (view_expr e.value)) c.in-Some.is c.in_ok-operand.ensures.found)
    c.in_ok-applied_to.ensures
