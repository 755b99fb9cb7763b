use Rattle.std.proofs.Common.{◌≡◌, ap, ◌∙◌}
use Rattle.std.specs.Prelude.{IfOk, IfErr}
use Rattle.limbo_types.specs.Types.{Ty}
use Rattle.limbo_types.specs.View.{view_ty}
use Rattle.limbo_types.specs.declared.ty.Ty as code_ty
use Rattle.limbo_typed.specs.declared.expr.TExpr as code_expr
use Rattle.limbo_typed.specs.View.{view_expr, view_place}
use Rattle.limbo_typed.specs.Sound.{type_of}
use Rattle.limbo_refusals.specs.Refusals.{Refuses, NoneIs}
use Rattle.limbo_operators.specs.declared.rows.Row as code_row
use Rattle.limbo_operators.specs.RowView.{view_row}
use Rattle.limbo_updating.specs.Updating.{HasUpdateRow, ByRow, asked, RowlessFails}
use Rattle.limbo_updating.proofs.Updated.{at, both_at, some_is, none_is, type_in_view, updated_so, refused_so, rowless_so, not_place_so}
use Rattle.limbo_updating.proofs.updating.update.Goals as goal

pub returns-in_default-clause-refused : goal.returns-in_default-clause-refused
returns-in_default-clause-refused c =
    let place = view_expr c.args.place.value in
    let value = view_expr c.args.value.value in
    rowless_so c.refuse.result c.args.op place value
    (both_at (λ (x y : code_expr.TExpr). NoneIs (HasUpdateRow c.args.op (view_expr x) (view_expr y))) c.deref-2.result.now c.args.place.value
    c.deref-3.result.now c.args.value.value c.deref-2.ensures c.deref-3.ensures
    (none_is c.in_ok-row.field-0 _ c.in_default.is c.in_ok-row.ensures.none))
    (at (λ (y : code_expr.TExpr). Refuses c.refuse.result (RowlessFails place (view_expr y))) c.deref-in_default.result.now c.args.value.value
    c.deref-in_default.ensures c.refuse.ensures)

pub returns-in-Some-place_of-clause-typed : goal.returns-in-Some-place_of-clause-typed
returns-in-Some-place_of-clause-typed c =
    let place = view_expr c.args.place.value in
    let value = view_expr c.args.value.value in
    let row = c.in-Some.row.value in
    let p = view_place c.in-Some-place_of.place.value in
    let t = view_ty c.args.place.value.ty in
    let same : view_ty c.in_ok-of.of.value ≡ t =
    c.in_ok-of.ensures ∙ ap (λ (z : code_expr.TExpr). type_of (view_expr z)) c.deref.ensures ∙ type_in_view c.args.place.value in
    updated_so c.with_row.result c.args.op place value t p (view_row row) c.in-Some-place_of.ensures.found
    (both_at (λ (x y : code_expr.TExpr). HasUpdateRow c.args.op (view_expr x) (view_expr y) (view_row row)) c.deref-2.result.now c.args.place.value
    c.deref-3.result.now c.args.value.value c.deref-2.ensures c.deref-3.ensures
    (some_is c.in_ok-row.field-0 c.in-Some.row
    (λ r. HasUpdateRow c.args.op (view_expr c.deref-2.result.now) (view_expr c.deref-3.result.now) (view_row r.value)) c.in-Some.is
    c.in_ok-row.ensures.found))
    (at (λ (z : Ty). IfOk c.with_row.result (λ e. ByRow (view_row row) z p value (view_expr e.value))) (view_ty c.in_ok-of.of.value) t same
    (both_at (λ (x : code_row.Row) (z : code_ty.Ty). IfOk c.with_row.result (λ e. ByRow (view_row x) (view_ty z) p value (view_expr e.value)))
    c.deref-in-Some-place_of.result.now row c.deref-in-Some-place_of-2.result.now c.in_ok-of.of.value c.deref-in-Some-place_of.ensures
    c.deref-in-Some-place_of-2.ensures c.with_row.ensures.given))

pub returns-in-Some-place_of-clause-refused : goal.returns-in-Some-place_of-clause-refused
returns-in-Some-place_of-clause-refused c =
    let place = view_expr c.args.place.value in
    let value = view_expr c.args.value.value in
    let row = c.in-Some.row.value in
    let p = view_place c.in-Some-place_of.place.value in
    let t = view_ty c.args.place.value.ty in
    let same : view_ty c.in_ok-of.of.value ≡ t =
    c.in_ok-of.ensures ∙ ap (λ (z : code_expr.TExpr). type_of (view_expr z)) c.deref.ensures ∙ type_in_view c.args.place.value in
    refused_so c.with_row.result c.args.op place value t p (view_row row) c.in-Some-place_of.ensures.found
    (both_at (λ (x y : code_expr.TExpr). HasUpdateRow c.args.op (view_expr x) (view_expr y) (view_row row)) c.deref-2.result.now c.args.place.value
    c.deref-3.result.now c.args.value.value c.deref-2.ensures c.deref-3.ensures
    (some_is c.in_ok-row.field-0 c.in-Some.row
    (λ r. HasUpdateRow c.args.op (view_expr c.deref-2.result.now) (view_expr c.deref-3.result.now) (view_row r.value)) c.in-Some.is
    c.in_ok-row.ensures.found))
    (at (λ (z : Ty). IfErr c.with_row.result (λ f. Refuses f (λ q. (q ≡ asked (view_row row)) × NoneIs (ByRow (view_row row) z p value))))
    (view_ty c.in_ok-of.of.value) t same
    (both_at (λ (x : code_row.Row) (z : code_ty.Ty). IfErr c.with_row.result (λ f. Refuses f (λ q. (q ≡ asked (view_row x))
    × NoneIs (ByRow (view_row x) (view_ty z) p value)))) c.deref-in-Some-place_of.result.now row c.deref-in-Some-place_of-2.result.now
    c.in_ok-of.of.value c.deref-in-Some-place_of.ensures c.deref-in-Some-place_of-2.ensures c.with_row.ensures.refused))

pub returns-in-None-clause-refused : goal.returns-in-None-clause-refused
returns-in-None-clause-refused c = not_place_so c.args.op (view_expr c.args.place.value) (view_expr c.args.value.value) c.in-None.ensures.none
