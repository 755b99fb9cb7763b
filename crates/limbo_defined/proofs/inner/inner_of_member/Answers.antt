use Rattle.std.proofs.Common.{ℕ, List, map, refl, sym, subst}
use Rattle.std.proofs.lemmas.Option.{IfSome_then}
use Rattle.limbo_tree.specs.View.{view_member, view_fn, members_of, names_of}
use Rattle.limbo_declarations.specs.Rows.{Row}
use Rattle.limbo_defined.specs.Defined.{HasInner}
use Rattle.limbo_defined.proofs.Holding.{none_then, no_adt, each_no_adt, adt_inner, inner_adt}
use Rattle.limbo_defined.proofs.Placing as placed
use Rattle.limbo_defined.proofs.Walks.{function_rows, adt_rows, var_plain, type_plain, con_plain}
use Rattle.limbo_defined.proofs.inner.inner_of_member.Goals as goal

pub returns-in-Adt-clause-some : goal.returns-in-Adt-clause-some
returns-in-Adt-clause-some c =
    let a = c.in-Adt in
    let x = λ (path : List ℕ). adt_rows c.args.m.now a.name a.members a.pick a.span a.is path c.deref.result.now c.deref.ensures.value in
    IfSome_then c.function_in.result c.function_in.ensures.some
    (λ n h path. subst (λ (z : List Row). HasInner z path n.now.text) (sym (x path))
    (adt_inner n.now.text path a.name.text (members_of (map view_member c.deref.result.now)) _ (h path)))

pub returns-in-Adt-clause-none : goal.returns-in-Adt-clause-none
returns-in-Adt-clause-none c =
    let a = c.in-Adt in
    let x = λ (path : List ℕ). adt_rows c.args.m.now a.name a.members a.pick a.span a.is path c.deref.result.now c.deref.ensures.value in
    none_then c.function_in.result c.function_in.ensures.none
    (λ f path name h. f path name (inner_adt name path a.name.text (members_of (map view_member c.deref.result.now)) _ path
    (subst (λ (z : List Row). HasInner z path name) (x path) h)))

pub returns-in-Function-clause-none : goal.returns-in-Function-clause-none
returns-in-Function-clause-none c =
    let a = c.in-Function in
    λ path name h.
    let e = function_rows c.args.m.now a.names a.of a.span a.is path a.names.items refl in
    let i = subst (λ (z : List Row). HasInner z path name) e h in
    each_no_adt path (names_of a.names.items) (view_fn a.of.value) path i.adt i.members i.has_adt

pub returns-in-Var-clause-none : goal.returns-in-Var-clause-none
returns-in-Var-clause-none c = let a = c.in-Var in λ path name h. no_adt _ path h.adt h.members
    (var_plain c.args.m.now a.names a.of a.span a.is path) h.has_adt

pub returns-in-Con-clause-none : goal.returns-in-Con-clause-none
returns-in-Con-clause-none c = let a = c.in-Con in λ path name h. no_adt _ path h.adt h.members
    (con_plain c.args.m.now a.names a.value a.span a.is path) h.has_adt

pub returns-in-Type-clause-none : goal.returns-in-Type-clause-none
returns-in-Type-clause-none c = let a = c.in-Type in λ path name h. no_adt _ path h.adt h.members
    (type_plain c.args.m.now a.names a.of a.span a.is path) h.has_adt

pub returns-in-Adt-clause-placed : goal.returns-in-Adt-clause-placed
returns-in-Adt-clause-placed c =
    let a = c.in-Adt in
    IfSome_then c.function_in.result c.function_in.ensures.placed
    (λ n h. placed.adt_inner c.args.m.now a.name a.members a.pick a.span a.is n.now c.deref.result.now c.deref.ensures.value h)
