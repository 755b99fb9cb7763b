use Rattle.std.proofs.Common.{◌≡◌, option_map}
use Rattle.std.proofs.lemmas.Result.{IfOk-weaker}
use Rattle.limbo_types.specs.View.{view_ty}
use Rattle.limbo_layout.specs.View.{view_defs}
use Rattle.limbo_prefixes.specs.Choosing.{unary_row}
use Rattle.limbo_prefixes.specs.RowView.{view_one}
use Rattle.limbo_prefixes.proofs.OneTable.{unary_given, unary_found}
use Rattle.limbo_prefixes.proofs.Told.{one_found, one_absent}
use Rattle.limbo_prefixes.proofs.rows.unary_row.Goals as goal

pub returns-clause-found : goal.returns-clause-found
returns-clause-found c =
    IfOk-weaker c.choose_unary.result (λ r. option_map view_one r ≡ unary_row (view_defs c.args.defs.now) c.args.op (view_ty c.args.t.now)) _
    (λ r h. one_found r _ _ h (unary_given (view_defs c.args.defs.now) c.args.op (view_ty c.args.t.now))) c.choose_unary.ensures

pub returns-clause-none : goal.returns-clause-none
returns-clause-none c =
    IfOk-weaker c.choose_unary.result (λ r. option_map view_one r ≡ unary_row (view_defs c.args.defs.now) c.args.op (view_ty c.args.t.now)) _
    (λ r h. one_absent r _ _ h (unary_found (view_defs c.args.defs.now) c.args.op (view_ty c.args.t.now))) c.choose_unary.ensures
