use Rattle.limbo_types.specs.View.{view_ty}
use Rattle.limbo_typed.specs.View.{view_expr, view_place}
use Rattle.limbo_operands.specs.limbo_standing.Standing.{Settles}
use Rattle.limbo_operators.specs.RowView.{view_row}
use Rattle.limbo_updating.proofs.Updated.{some_is, by_row_so}
use Rattle.limbo_updating.proofs.updating.by_row.Goals as goal

pub returns-clause-given : goal.returns-clause-given
returns-clause-given c =
    by_row_so (view_row c.args.row.now) (view_ty c.args.of.now) (view_place c.args.place.value) (view_expr c.args.value.value)
    (view_expr c.in-Some.value.value) (view_expr c.in_ok-updated.field-0.value)
    (some_is c.in_ok-value.field-0 c.in-Some.value
    (λ e. Settles (view_ty c.args.row.now.right) (view_expr c.args.value.value) (view_expr e.value)) c.in-Some.is c.in_ok-value.ensures.found)
    c.in_ok-updated.ensures
