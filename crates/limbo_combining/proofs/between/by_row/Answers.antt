use Rattle.limbo_types.specs.View.{view_ty}
use Rattle.limbo_typed.specs.View.{view_expr}
use Rattle.limbo_operands.specs.limbo_standing.Standing.{Settles}
use Rattle.limbo_operators.specs.RowView.{view_row}
use Rattle.limbo_combining.proofs.Combined.{some_is, by_row_so}
use Rattle.limbo_combining.proofs.between.by_row.Goals as goal

pub returns-clause-given : goal.returns-clause-given
returns-clause-given c =
    by_row_so (view_row c.args.row.now) (view_expr c.args.left.value) (view_expr c.args.right.value) (view_expr c.in-Some.left.value)
    (view_expr c.in-Some-2.right.value) (view_expr c.in_ok-applied.field-0.value)
    (some_is c.in_ok-left.field-0 c.in-Some.left (λ e. Settles (view_ty c.args.row.now.left) (view_expr c.args.left.value) (view_expr e.value))
    c.in-Some.is c.in_ok-left.ensures.found)
    (some_is c.in_ok-right.field-0 c.in-Some-2.right
    (λ e. Settles (view_ty c.args.row.now.right) (view_expr c.args.right.value) (view_expr e.value)) c.in-Some-2.is c.in_ok-right.ensures.found)
    c.in_ok-applied.ensures
