use Rattle.std.proofs.Common.{◌≡◌, option_map}
use Rattle.std.proofs.lemmas.Result.{IfOk-weaker}
use Rattle.limbo_types.specs.View.{view_ty}
use Rattle.limbo_operators.specs.Choosing.{binary_row}
use Rattle.limbo_operators.specs.RowView.{view_row}
use Rattle.limbo_operators.proofs.Table.{binary_given, binary_found}
use Rattle.limbo_operators.proofs.Told.{row_found, row_absent}
use Rattle.limbo_operators.proofs.rows.binary_row.Goals as goal

pub returns-clause-found : goal.returns-clause-found
returns-clause-found c =
    IfOk-weaker c.choose_binary.result (λ r. option_map view_row r ≡ binary_row c.args.sign (view_ty c.args.left.now) (view_ty c.args.right.now)) _
    (λ r h. row_found r _ _ h (binary_given c.args.sign (view_ty c.args.left.now) (view_ty c.args.right.now))) c.choose_binary.ensures

pub returns-clause-none : goal.returns-clause-none
returns-clause-none c =
    IfOk-weaker c.choose_binary.result (λ r. option_map view_row r ≡ binary_row c.args.sign (view_ty c.args.left.now) (view_ty c.args.right.now)) _
    (λ r h. row_absent r _ _ h (binary_found c.args.sign (view_ty c.args.left.now) (view_ty c.args.right.now))) c.choose_binary.ensures
