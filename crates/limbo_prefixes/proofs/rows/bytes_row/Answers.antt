use Rattle.std.proofs.Common.{◌≡◌, option_map}
use Rattle.std.proofs.lemmas.Result.{IfOk-weaker}
use Rattle.limbo_types.specs.View.{view_ty}
use Rattle.limbo_prefixes.specs.Choosing.{bytes_row}
use Rattle.limbo_prefixes.specs.RowView.{view_one}
use Rattle.limbo_prefixes.proofs.OneTable.{bytes_row_given, bytes_row_found}
use Rattle.limbo_prefixes.proofs.Told.{one_found, one_absent}
use Rattle.limbo_prefixes.proofs.rows.bytes_row.Goals as goal

pub returns-clause-found : goal.returns-clause-found
returns-clause-found c =
    IfOk-weaker c.choose_bytes.result (λ r. option_map view_one r ≡ bytes_row (view_ty c.args.t.now)) _
    (λ r h. one_found r _ _ h (bytes_row_given (view_ty c.args.t.now))) c.choose_bytes.ensures

pub returns-clause-none : goal.returns-clause-none
returns-clause-none c =
    IfOk-weaker c.choose_bytes.result (λ r. option_map view_one r ≡ bytes_row (view_ty c.args.t.now)) _
    (λ r h. one_absent r _ _ h (bytes_row_found (view_ty c.args.t.now))) c.choose_bytes.ensures
