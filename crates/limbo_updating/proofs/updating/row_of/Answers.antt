use Rattle.limbo_types.specs.Types.{Ty}
use Rattle.limbo_types.specs.View.{view_ty}
use Rattle.limbo_typed.specs.View.{view_expr}
use Rattle.limbo_typed.specs.Sound.{type_of}
use Rattle.limbo_operators.specs.Rows.{UpdateRow}
use Rattle.limbo_updating.proofs.Updated.{both_at, none_is, type_in_view}
use Rattle.limbo_updating.proofs.updating.row_of.Goals as goal

pub returns-in-None-clause-none : goal.returns-in-None-clause-none
returns-in-None-clause-none c = λ row h.
    none_is c.in_ok-row.field-0 _ c.in-None.is c.in_ok-row.ensures.none row
    (both_at (λ (t u : Ty). UpdateRow c.args.op t u row) (type_of (view_expr c.args.place.now)) (view_ty c.args.place.now.ty)
    (type_of (view_expr c.args.value.now)) (view_ty c.args.value.now.ty) (type_in_view c.args.place.now) (type_in_view c.args.value.now) h)
