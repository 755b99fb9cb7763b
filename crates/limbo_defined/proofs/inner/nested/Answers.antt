use Rattle.std.proofs.Common.{◌≡◌, ◌+◌, List, [], ◌∷◌, drop, inl, inr, ap, sym, subst, arith}
use Rattle.limbo_declarations.specs.Rows.{Row}
use Rattle.limbo_declarations.specs.View.{rows_of, view_row}
use Rattle.limbo_declarations.proofs.Apart.{drop_more}
use Rattle.limbo_includes.proofs.Lists.{contains_at}
use Rattle.limbo_defined.proofs.Placing.{nested_among}
use Rattle.limbo_top.proofs.Ends.{drop_all}
use Rattle.limbo_defined.specs.Defined.{IsNested}
use Rattle.limbo_defined.proofs.Holding.{none_plain, no_adt, nested_left, nested_right, nested_cases}
use Rattle.limbo_defined.proofs.inner.nested.Goals as goal

pub returns-in-Some-clause-some : goal.returns-in-Some-clause-some
returns-in-Some-clause-some c =
    let row = c.row-item.result in
    let rest = rows_of (drop (c.loop-row.row-index + 1) c.args.rows.now) in
    let s : rows_of (drop c.loop-row.row-index c.args.rows.now) ≡ view_row row ∷ rest = drop_more view_row c.loop-row.row-index
    c.args.rows.now row (omega arith) c.row-item.is in
    let n = c.in-Some.name.now.text in
    c.loop-row.invariant.up row.path.now n
    (subst (λ (z : List Row). IsNested z row.path.now n) (sym s)
    (nested_left (view_row row ∷ []) rest row.path.now n c.in-Some.ensures.some))

pub loop-row-preserved : goal.loop-row-preserved
loop-row-preserved c =
    let row = c.row-item.result in
    let rest = rows_of (drop (c.loop-row.row-index + 1) c.args.rows.now) in
    let s : rows_of (drop c.loop-row.row-index c.args.rows.now) ≡ view_row row ∷ rest = drop_more view_row c.loop-row.row-index
    c.args.rows.now row (omega arith) c.row-item.is in
    record {
      up = λ path name h. c.loop-row.invariant.up path name
          (subst (λ (z : List Row). IsNested z path name) (sym s) (nested_right (view_row row ∷ []) rest path name h));
      down = λ path name h. elim (nested_cases (view_row row ∷ []) rest path name
          (subst (λ (z : List Row). IsNested z path name) s (c.loop-row.invariant.down path name h))) [
            | inl f ↦ absurd (c.in_default.ensures.none path name f)
            | inr f ↦ f
          ];
    }

pub returns-clause-none : goal.returns-clause-none
returns-clause-none c =
    λ path name h.
    let e = ap rows_of (drop_all c.loop-row.row-index c.args.rows.now (omega arith)) in
    let i = subst (λ (z : List Row). IsNested z path name) e (c.loop-row.invariant.down path name h) in
    no_adt [] path i.adt i.members none_plain i.has_adt

pub returns-in-Some-clause-placed : goal.returns-in-Some-clause-placed
returns-in-Some-clause-placed c =
    let row = c.row-item.result in
    nested_among c.in-Some.name.now row.path row c.args.rows.now
    (contains_at c.args.rows.now c.loop-row.row-index row (omega arith) c.row-item.is) c.in-Some.ensures.placed
