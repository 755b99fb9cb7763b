use Rattle.std.proofs.Common.{◌≡◌, ℕ, List, [], length, subst, rules}
use Rattle.std.proofs.lemmas.Result.{err_from_is_err_and}
use Rattle.limbo_declarations.specs.Rows.{Row}
use Rattle.limbo_declarations.specs.declared.row.Row as code_row
use Rattle.limbo_declarations.specs.declared.names.RowsFault.TheVariants.{Twice}
use Rattle.limbo_entries.specs.declared.scope.Scope as code_scope
use Rattle.limbo_entries.specs.Entries.{IsAgain}
use Rattle.limbo_declarations.specs.View.{view_row}
use Rattle.limbo_entries.specs.Growing.{IsGrown}
use Rattle.limbo_entries.proofs.filling.fill.Goals as goal

pub returns-then-number-len-clause-grown : goal.returns-then-number-len-clause-grown
returns-then-number-len-clause-grown c =
    λ top outermost g.
    let e : c.loop-number.number ≡ length c.loop-number.entries.items = search rules in
    subst (λ (z : ℕ). IsGrown top c.loop-number.entries.items outermost c.loop-number.scopes.items z) e
    (c.loop-number.invariant.grown top outermost g)

pub returns-in_err-push_inside-clause-again : goal.returns-in_err-push_inside-clause-again
returns-in_err-push_inside-clause-again c =
    let k : (r : code_row.Row) → c.in_err-push_inside.field-0.0 ≡ Twice r → (top : List Row) (outermost : code_scope.Scope)
    → IsGrown top c.args.entries.now.items outermost [] 0 → IsAgain top (view_row r) =
    λ r e top outermost g. c.in_err-push_inside.ensures.again r e top outermost (c.loop-number.invariant.grown top outermost g) in
    let p = err_from_is_err_and c.from_residual.result c.from_residual.ensures.1 in
    rw (p.1, p.2) k

pub loop-number-preserved : goal.loop-number-preserved
loop-number-preserved c = record {
  grown = λ top outermost g. c.in_ok-push_inside.ensures.grown top outermost (c.loop-number.invariant.grown top outermost g);
  there = search rules;
}
