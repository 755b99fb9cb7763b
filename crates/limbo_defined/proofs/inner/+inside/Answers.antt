use Rattle.std.proofs.Common.{ℕ, List, [], ◌+◌, map, inl, inr, ap, sym, subst, ◌∙◌, arith}
use Rattle.std.proofs.lemmas.Option.{IfSome_then}
use Rattle.limbo_tree.specs.View.{view_member, view_fn, members_of}
use Rattle.limbo_declarations.specs.Rows.{Row, rows_of_member}
use Rattle.limbo_includes.proofs.Lists.{contains_at}
use Rattle.limbo_defined.specs.Defined.{Holds}
use Rattle.limbo_defined.specs.Places.{own_names}
use Rattle.limbo_defined.proofs.Placing.{own_inside, adt_inside, inside_among}
use Rattle.limbo_defined.proofs.Holding.{none_then, none_plain, holds_left, holds_right, holds_cases, holds_nothing, adt_holds, adt_held}
use Rattle.limbo_defined.proofs.Walks.{function_rows, adt_rows, var_plain, type_plain, con_plain, next_rows, no_rows, rows_from}
use Rattle.limbo_defined.proofs.inner.+inside.Goals as goal

pub function_in_member-returns-in-Function-clause-some : goal.function_in_member-returns-in-Function-clause-some
function_in_member-returns-in-Function-clause-some t c =
    let a = c.in-Function in
    IfSome_then c.first.result c.first.ensures.some
    (λ n h path. subst (λ (z : List Row). Holds n.now.text z)
    (sym (function_rows c.args.m.now a.names a.of a.span a.is path c.deref.result.now c.deref.ensures.value))
    (h path (view_fn a.of.value)))

pub function_in_member-returns-in-Function-clause-none : goal.function_in_member-returns-in-Function-clause-none
function_in_member-returns-in-Function-clause-none t c =
    let a = c.in-Function in
    none_then c.first.result c.first.ensures.none
    (λ f path name h. f path name (view_fn a.of.value)
    (subst (λ (z : List Row). Holds name z) (function_rows c.args.m.now a.names a.of a.span a.is path c.deref.result.now
    c.deref.ensures.value) h))

pub function_in_member-returns-in-Adt-clause-none : goal.function_in_member-returns-in-Adt-clause-none
function_in_member-returns-in-Adt-clause-none t c =
    let a = c.in-Adt in
    let x = λ (path : List ℕ). adt_rows c.args.m.now a.name a.members a.pick a.span a.is path c.deref-in-Adt.result.now
    c.deref-in-Adt.ensures.value in
    none_then c.function_in.result c.function_in.ensures.none
    (λ f path name h. f path name (adt_held name path a.name.text (members_of (map view_member c.deref-in-Adt.result.now)) _
    (subst (λ (z : List Row). Holds name z) (x path) h)))

pub function_in_member-returns-in-Adt-clause-some : goal.function_in_member-returns-in-Adt-clause-some
function_in_member-returns-in-Adt-clause-some t c =
    let a = c.in-Adt in
    let x = λ (path : List ℕ). adt_rows c.args.m.now a.name a.members a.pick a.span a.is path c.deref-in-Adt.result.now
    c.deref-in-Adt.ensures.value in
    IfSome_then c.function_in.result c.function_in.ensures.some
    (λ n h path. subst (λ (z : List Row). Holds n.now.text z) (sym (x path))
    (adt_holds n.now.text path a.name.text (members_of (map view_member c.deref-in-Adt.result.now)) _ (h path)))

pub function_in_member-returns-in-Var-clause-none : goal.function_in_member-returns-in-Var-clause-none
function_in_member-returns-in-Var-clause-none t c = let a = c.in-Var in λ path name h. holds_nothing name _ h
    (var_plain c.args.m.now a.names a.of a.span a.is path)

pub function_in_member-returns-in-Con-clause-none : goal.function_in_member-returns-in-Con-clause-none
function_in_member-returns-in-Con-clause-none t c = let a = c.in-Con in λ path name h. holds_nothing name _ h
    (con_plain c.args.m.now a.names a.value a.span a.is path)

pub function_in_member-returns-in-Type-clause-none : goal.function_in_member-returns-in-Type-clause-none
function_in_member-returns-in-Type-clause-none t c = let a = c.in-Type in λ path name h. holds_nothing name _ h
    (type_plain c.args.m.now a.names a.of a.span a.is path)

pub function_in-returns-in-Some-clause-some : goal.function_in-returns-in-Some-clause-some
function_in-returns-in-Some-clause-some t c =
    λ path.
    let s = next_rows path c.loop-m.m-index c.args.members.now c.m-item.result (omega arith) c.m-item.is in
    let n = c.in-Some.name.now.text in
    c.loop-m.invariant.up path n
    (subst (λ (z : List Row). Holds n z) (sym s) (holds_left n (rows_of_member path (view_member c.m-item.result))
    (rows_from path (c.loop-m.m-index + 1) c.args.members.now) (c.in-Some.ensures.some path)))

pub function_in-loop-m-preserved : goal.function_in-loop-m-preserved
function_in-loop-m-preserved t c =
    let s = λ (path : List ℕ). next_rows path c.loop-m.m-index c.args.members.now c.m-item.result (omega arith) c.m-item.is in
    let one = λ (path : List ℕ). rows_of_member path (view_member c.m-item.result) in
    let rest = λ (path : List ℕ). rows_from path (c.loop-m.m-index + 1) c.args.members.now in
    record {
      up = λ path name h. c.loop-m.invariant.up path name
          (subst (λ (z : List Row). Holds name z) (sym (s path)) (holds_right name (one path) (rest path) h));
      down = λ path name h. elim (holds_cases name (one path) (rest path)
          (subst (λ (z : List Row). Holds name z) (s path) (c.loop-m.invariant.down path name h))) [
            | inl f ↦ absurd (c.in_default.ensures.none path name f)
            | inr f ↦ f
          ];
    }

pub function_in-returns-clause-none : goal.function_in-returns-clause-none
function_in-returns-clause-none t c =
    λ path name h.
    let e = no_rows path c.loop-m.m-index c.args.members.now (omega arith) in
    holds_nothing name [] (subst (λ (z : List Row). Holds name z) e (c.loop-m.invariant.down path name h)) none_plain

pub function_in_member-returns-in-Function-clause-placed : goal.function_in_member-returns-in-Function-clause-placed
function_in_member-returns-in-Function-clause-placed t c =
    let a = c.in-Function in
    let e = ap own_names a.is ∙ sym c.deref.ensures.value in
    IfSome_then c.first.result c.first.ensures.among (λ n h. own_inside c.args.m.now c.deref.result.now n.now e h)

pub function_in_member-returns-in-Adt-clause-placed : goal.function_in_member-returns-in-Adt-clause-placed
function_in_member-returns-in-Adt-clause-placed t c =
    let a = c.in-Adt in
    IfSome_then c.function_in.result c.function_in.ensures.placed
    (λ n h. adt_inside c.args.m.now a.name a.members a.pick a.span a.is n.now c.deref-in-Adt.result.now c.deref-in-Adt.ensures.value h)

pub function_in-returns-in-Some-clause-placed : goal.function_in-returns-in-Some-clause-placed
function_in-returns-in-Some-clause-placed t c =
    inside_among c.in-Some.name.now c.m-item.result c.args.members.now
    (contains_at c.args.members.now c.loop-m.m-index c.m-item.result (omega arith) c.m-item.is) c.in-Some.ensures.placed
