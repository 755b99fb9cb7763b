use Rattle.limbo_typed.specs.declared.expr.TExpr as code_expr
use Rattle.limbo_typed.specs.View.{view_expr}
use Rattle.limbo_refusals.specs.Refusals.{Refuses, NoneIs}
use Rattle.limbo_operators.specs.declared.rows.Row as code_row
use Rattle.limbo_operators.specs.RowView.{view_row}
use Rattle.std.specs.Prelude.{◌≡◌, IfOk, IfErr}
use Rattle.limbo_combining.specs.Combining.{HasRow, IsLazy, ByRow, asked, types_of}
use Rattle.limbo_combining.proofs.Combined.{at, both_at, some_is, none_is, lazily_so, combined, combining_refused, combining_none}
use Rattle.limbo_combining.proofs.between.combine.Goals as goal

pub returns-in-Some-clause-typed : goal.returns-in-Some-clause-typed
returns-in-Some-clause-typed c =
    lazily_so c.args.op (view_expr c.args.left.value) (view_expr c.args.right.value) (view_expr c.in_ok-lazily.field-0.value) c.in-Some.connective
    (both_at (λ (x y : code_expr.TExpr). IsLazy c.args.op (view_expr x) (view_expr y) c.in-Some.connective) c.deref.result.now c.args.left.value
    c.deref-2.result.now c.args.right.value c.deref.ensures c.deref-2.ensures c.in-Some.ensures.found)
    c.in_ok-lazily.ensures

pub returns-in-Some-2-clause-typed : goal.returns-in-Some-2-clause-typed
returns-in-Some-2-clause-typed c =
    combined c.with_row.result c.args.op (view_expr c.args.left.value) (view_expr c.args.right.value) (view_row c.in-Some-2.row.value)
    (both_at (λ (x y : code_expr.TExpr). HasRow c.args.op (view_expr x) (view_expr y) (view_row c.in-Some-2.row.value)) c.deref-3.result.now
    c.args.left.value c.deref-4.result.now c.args.right.value c.deref-3.ensures c.deref-4.ensures
    (some_is c.in_ok-row.field-0 c.in-Some-2.row
    (λ r. HasRow c.args.op (view_expr c.deref-3.result.now) (view_expr c.deref-4.result.now) (view_row r.value)) c.in-Some-2.is c.in_ok-row.ensures.found))
    (at (λ (z : code_row.Row). IfOk c.with_row.result (λ e. ByRow (view_row z) (view_expr c.args.left.value) (view_expr c.args.right.value)
    (view_expr e.value))) c.deref-in-Some-2.result.now c.in-Some-2.row.value c.deref-in-Some-2.ensures c.with_row.ensures.given)

pub returns-in-Some-2-clause-refused : goal.returns-in-Some-2-clause-refused
returns-in-Some-2-clause-refused c =
    combining_refused c.with_row.result c.args.op (view_expr c.args.left.value) (view_expr c.args.right.value) (view_row c.in-Some-2.row.value)
    (both_at (λ (x y : code_expr.TExpr). HasRow c.args.op (view_expr x) (view_expr y) (view_row c.in-Some-2.row.value)) c.deref-3.result.now
    c.args.left.value c.deref-4.result.now c.args.right.value c.deref-3.ensures c.deref-4.ensures
    (some_is c.in_ok-row.field-0 c.in-Some-2.row
    (λ r. HasRow c.args.op (view_expr c.deref-3.result.now) (view_expr c.deref-4.result.now) (view_row r.value)) c.in-Some-2.is c.in_ok-row.ensures.found))
    (both_at (λ (x y : code_expr.TExpr). NoneIs (IsLazy c.args.op (view_expr x) (view_expr y))) c.deref.result.now c.args.left.value
    c.deref-2.result.now c.args.right.value c.deref.ensures c.deref-2.ensures c.in_default.ensures.none)
    (at (λ (z : code_row.Row). IfErr c.with_row.result (λ f. Refuses f (λ q. (q ≡ asked (view_row z))
    × NoneIs (ByRow (view_row z) (view_expr c.args.left.value) (view_expr c.args.right.value))))) c.deref-in-Some-2.result.now
    c.in-Some-2.row.value c.deref-in-Some-2.ensures c.with_row.ensures.refused)

pub returns-in-None-clause-refused : goal.returns-in-None-clause-refused
returns-in-None-clause-refused c =
    combining_none c.misfit.result c.args.op (view_expr c.args.left.value) (view_expr c.args.right.value)
    (both_at (λ (x y : code_expr.TExpr). NoneIs (HasRow c.args.op (view_expr x) (view_expr y))) c.deref-3.result.now c.args.left.value
    c.deref-4.result.now c.args.right.value c.deref-3.ensures c.deref-4.ensures
    (none_is c.in_ok-row.field-0 _ c.in-None.is c.in_ok-row.ensures.none))
    (both_at (λ (x y : code_expr.TExpr). NoneIs (IsLazy c.args.op (view_expr x) (view_expr y))) c.deref.result.now c.args.left.value
    c.deref-2.result.now c.args.right.value c.deref.ensures c.deref-2.ensures c.in_default.ensures.none)
    (both_at (λ (x y : code_expr.TExpr). Refuses c.misfit.result (λ q. q ≡ types_of (view_expr x) (view_expr y))) c.deref-in-None.result.now
    c.args.left.value c.deref-in-None-2.result.now c.args.right.value c.deref-in-None.ensures c.deref-in-None-2.ensures c.misfit.ensures)
