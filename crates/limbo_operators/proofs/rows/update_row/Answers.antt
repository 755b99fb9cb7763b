use Rattle.std.proofs.Common.{◌≡◌, option_map}
use Rattle.std.proofs.lemmas.Result.{IfOk-weaker}
use Rattle.limbo_types.specs.View.{view_ty}
use Rattle.limbo_operators.specs.Choosing.{update_row}
use Rattle.limbo_operators.specs.RowView.{view_row}
use Rattle.limbo_operators.proofs.Table.{update_given, update_found}
use Rattle.limbo_operators.proofs.Told.{row_found, row_absent}
use Rattle.limbo_operators.proofs.rows.update_row.Goals as goal

pub returns-clause-found : goal.returns-clause-found
returns-clause-found c =
    IfOk-weaker c.choose_update.result (λ r. option_map view_row r ≡ update_row c.args.op (view_ty c.args.place.now) (view_ty c.args.value.now)) _
    (λ r h. row_found r _ _ h (update_given c.args.op (view_ty c.args.place.now) (view_ty c.args.value.now))) c.choose_update.ensures

pub returns-clause-none : goal.returns-clause-none
returns-clause-none c =
    IfOk-weaker c.choose_update.result (λ r. option_map view_row r ≡ update_row c.args.op (view_ty c.args.place.now) (view_ty c.args.value.now)) _
    (λ r h. row_absent r _ _ h (update_found c.args.op (view_ty c.args.place.now) (view_ty c.args.value.now))) c.choose_update.ensures
