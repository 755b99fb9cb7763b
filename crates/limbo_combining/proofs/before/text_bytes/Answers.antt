use Rattle.std.specs.Prelude.{◌≡◌, IfOk, IfErr}
use Rattle.limbo_typed.specs.declared.expr.TExpr as code_expr
use Rattle.limbo_typed.specs.View.{view_expr}
use Rattle.limbo_refusals.specs.Refusals.{Refuses, NoneIs}
use Rattle.limbo_prefixes.specs.declared.rows.OneRow as code_one
use Rattle.limbo_prefixes.specs.RowView.{view_one}
use Rattle.limbo_combining.specs.Combining.{HasBytesRow, ByOneRow, asked_one, types_of}
use Rattle.limbo_combining.proofs.Combined.{at, some_is, none_is, bytes_made, bytes_refused, bytes_none}
use Rattle.limbo_combining.proofs.before.text_bytes.Goals as goal

pub returns-in-Some-clause-typed : goal.returns-in-Some-clause-typed
returns-in-Some-clause-typed c =
    bytes_made c.with_one_row.result (view_expr c.args.operand.value) (view_one c.in-Some.row.value)
    (at (λ (x : code_expr.TExpr). HasBytesRow (view_expr x) (view_one c.in-Some.row.value)) c.deref.result.now c.args.operand.value c.deref.ensures
    (some_is c.in_ok-row.field-0 c.in-Some.row (λ r. HasBytesRow (view_expr c.deref.result.now) (view_one r.value)) c.in-Some.is
    c.in_ok-row.ensures.found))
    (at (λ (z : code_one.OneRow). IfOk c.with_one_row.result (λ e. ByOneRow (view_one z) (view_expr c.args.operand.value) (view_expr e.value)))
    c.deref-in-Some.result.now c.in-Some.row.value c.deref-in-Some.ensures c.with_one_row.ensures.given)

pub returns-in-Some-clause-refused : goal.returns-in-Some-clause-refused
returns-in-Some-clause-refused c =
    bytes_refused c.with_one_row.result (view_expr c.args.operand.value) (view_one c.in-Some.row.value)
    (at (λ (x : code_expr.TExpr). HasBytesRow (view_expr x) (view_one c.in-Some.row.value)) c.deref.result.now c.args.operand.value c.deref.ensures
    (some_is c.in_ok-row.field-0 c.in-Some.row (λ r. HasBytesRow (view_expr c.deref.result.now) (view_one r.value)) c.in-Some.is
    c.in_ok-row.ensures.found))
    (at (λ (z : code_one.OneRow). IfErr c.with_one_row.result (λ f. Refuses f (λ q. (q ≡ asked_one (view_one z))
    × NoneIs (ByOneRow (view_one z) (view_expr c.args.operand.value))))) c.deref-in-Some.result.now c.in-Some.row.value c.deref-in-Some.ensures
    c.with_one_row.ensures.refused)

pub returns-in-None-clause-refused : goal.returns-in-None-clause-refused
returns-in-None-clause-refused c =
    bytes_none c.misfit.result (view_expr c.args.operand.value)
    (at (λ (x : code_expr.TExpr). NoneIs (HasBytesRow (view_expr x))) c.deref.result.now c.args.operand.value c.deref.ensures
    (none_is c.in_ok-row.field-0 _ c.in-None.is c.in_ok-row.ensures.none))
    (at (λ (x : code_expr.TExpr). Refuses c.misfit.result (λ q. q ≡ types_of (view_expr x) (view_expr x))) c.deref-in-None.result.now
    c.args.operand.value c.deref-in-None.ensures c.misfit.ensures)
