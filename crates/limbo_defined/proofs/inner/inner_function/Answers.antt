use Rattle.std.proofs.Common.{ℕ, List, [], ◌+◌, inl, inr, sym, subst, arith}
use Rattle.limbo_tree.specs.View.{view_member}
use Rattle.limbo_declarations.specs.Rows.{Row, rows_of_member}
use Rattle.limbo_defined.specs.Defined.{HasInner}
use Rattle.limbo_defined.proofs.Holding.{none_plain, no_adt, inner_left, inner_right, inner_cases}
use Rattle.limbo_includes.proofs.Lists.{contains_at}
use Rattle.limbo_defined.proofs.Placing.{inner_among}
use Rattle.limbo_defined.proofs.Walks.{next_rows, no_rows, rows_from}
use Rattle.limbo_defined.proofs.inner.inner_function.Goals as goal

pub returns-in-Some-clause-some : goal.returns-in-Some-clause-some
returns-in-Some-clause-some c =
    λ path.
    let s = next_rows path c.loop-m.m-index c.args.members.now c.m-item.result (omega arith) c.m-item.is in
    let n = c.in-Some.name.now.text in
    c.loop-m.invariant.up path n
    (subst (λ (z : List Row). HasInner z path n) (sym s)
    (inner_left (rows_of_member path (view_member c.m-item.result)) (rows_from path (c.loop-m.m-index + 1) c.args.members.now) path n
    (c.in-Some.ensures.some path)))

pub loop-m-preserved : goal.loop-m-preserved
loop-m-preserved c =
    let s = λ (path : List ℕ). next_rows path c.loop-m.m-index c.args.members.now c.m-item.result (omega arith) c.m-item.is in
    let one = λ (path : List ℕ). rows_of_member path (view_member c.m-item.result) in
    let rest = λ (path : List ℕ). rows_from path (c.loop-m.m-index + 1) c.args.members.now in
    record {
      up = λ path name h. c.loop-m.invariant.up path name
          (subst (λ (z : List Row). HasInner z path name) (sym (s path)) (inner_right (one path) (rest path) path name h));
      down = λ path name h. elim (inner_cases (one path) (rest path) path name
          (subst (λ (z : List Row). HasInner z path name) (s path) (c.loop-m.invariant.down path name h))) [
            | inl f ↦ absurd (c.in_default.ensures.none path name f)
            | inr f ↦ f
          ];
    }

pub returns-clause-none : goal.returns-clause-none
returns-clause-none c =
    λ path name h.
    let e = no_rows path c.loop-m.m-index c.args.members.now (omega arith) in
    let i = subst (λ (z : List Row). HasInner z path name) e (c.loop-m.invariant.down path name h) in
    no_adt [] path i.adt i.members none_plain i.has_adt

pub returns-in-Some-clause-placed : goal.returns-in-Some-clause-placed
returns-in-Some-clause-placed c =
    inner_among c.in-Some.name.now c.m-item.result c.args.members.now
    (contains_at c.args.members.now c.loop-m.m-index c.m-item.result (omega arith) c.m-item.is) c.in-Some.ensures.placed
