use Rattle.std.proofs.Common.{◌≡◌, sym, ◌∙◌}
use Rattle.std.specs.Prelude.{IfOk, IfErr}
use Rattle.limbo_layout.specs.View.{view_defs}
use Rattle.limbo_typed.specs.declared.expr.TExpr as code_expr
use Rattle.limbo_typed.specs.View.{view_expr}
use Rattle.limbo_refusals.specs.Refusals.{Refuses, NoneIs}
use Rattle.limbo_prefixes.specs.declared.rows.OneRow as code_one
use Rattle.limbo_prefixes.specs.RowView.{view_one}
use Rattle.limbo_combining.specs.Combining.{HasOneRow, ByOneRow, asked_one, types_of}
use Rattle.limbo_combining.proofs.Combined.{at, some_is, none_is, operated, operating_refused, operating_none, operating_changes}
use Rattle.limbo_combining.proofs.before.operate.Goals as goal

pub returns-then-changes-clause-refused : goal.returns-then-changes-clause-refused
returns-then-changes-clause-refused c =
    operating_changes c.misfit.result (view_defs c.args.defs.now) c.args.op (view_expr c.args.operand.value) (sym c.changes.ensures ∙ c.if-changes.true)
    (at (λ (x : code_expr.TExpr). Refuses c.misfit.result (λ q. q ≡ types_of (view_expr x) (view_expr x))) c.deref.result.now c.args.operand.value
    c.deref.ensures c.misfit.ensures)

pub returns-in-Some-clause-typed : goal.returns-in-Some-clause-typed
returns-in-Some-clause-typed c =
    operated c.with_one_row.result (view_defs c.args.defs.now) c.args.op (view_expr c.args.operand.value) (view_one c.in-Some.row.value)
    (sym c.changes.ensures ∙ c.if-changes.false)
    (at (λ (x : code_expr.TExpr). HasOneRow (view_defs c.args.defs.now) c.args.op (view_expr x) (view_one c.in-Some.row.value)) c.deref-2.result.now
    c.args.operand.value c.deref-2.ensures
    (some_is c.in_ok-row.field-0 c.in-Some.row
    (λ r. HasOneRow (view_defs c.args.defs.now) c.args.op (view_expr c.deref-2.result.now) (view_one r.value)) c.in-Some.is c.in_ok-row.ensures.found))
    (at (λ (z : code_one.OneRow). IfOk c.with_one_row.result (λ e. ByOneRow (view_one z) (view_expr c.args.operand.value) (view_expr e.value)))
    c.deref-in-Some.result.now c.in-Some.row.value c.deref-in-Some.ensures c.with_one_row.ensures.given)

pub returns-in-Some-clause-refused : goal.returns-in-Some-clause-refused
returns-in-Some-clause-refused c =
    operating_refused c.with_one_row.result (view_defs c.args.defs.now) c.args.op (view_expr c.args.operand.value) (view_one c.in-Some.row.value)
    (at (λ (x : code_expr.TExpr). HasOneRow (view_defs c.args.defs.now) c.args.op (view_expr x) (view_one c.in-Some.row.value)) c.deref-2.result.now
    c.args.operand.value c.deref-2.ensures
    (some_is c.in_ok-row.field-0 c.in-Some.row
    (λ r. HasOneRow (view_defs c.args.defs.now) c.args.op (view_expr c.deref-2.result.now) (view_one r.value)) c.in-Some.is c.in_ok-row.ensures.found))
    (at (λ (z : code_one.OneRow). IfErr c.with_one_row.result (λ f. Refuses f (λ q. (q ≡ asked_one (view_one z))
    × NoneIs (ByOneRow (view_one z) (view_expr c.args.operand.value))))) c.deref-in-Some.result.now c.in-Some.row.value c.deref-in-Some.ensures
    c.with_one_row.ensures.refused)

pub returns-in-None-clause-refused : goal.returns-in-None-clause-refused
returns-in-None-clause-refused c =
    operating_none c.misfit-in-None.result (view_defs c.args.defs.now) c.args.op (view_expr c.args.operand.value)
    (at (λ (x : code_expr.TExpr). NoneIs (HasOneRow (view_defs c.args.defs.now) c.args.op (view_expr x))) c.deref-2.result.now c.args.operand.value
    c.deref-2.ensures (none_is c.in_ok-row.field-0 _ c.in-None.is c.in_ok-row.ensures.none))
    (at (λ (x : code_expr.TExpr). Refuses c.misfit-in-None.result (λ q. q ≡ types_of (view_expr x) (view_expr x))) c.deref-in-None.result.now
    c.args.operand.value c.deref-in-None.ensures c.misfit-in-None.ensures)
