use Rattle.std.proofs.Common.{List, ◌++◌, Some, refl, sym, ap, ◌∙◌}
use Rattle.std.proofs.lemmas.Result.{IfOk-weaker}
use Rattle.limbo_tree.specs.View.{view_member, view_fn, names_of}
use Rattle.limbo_declarations.specs.Rows.{rows_of_member}
use Rattle.limbo_defined.specs.View.{wanted_of}
use Rattle.limbo_defined.specs.Wanted.{Wanted, functions_in}
use Rattle.limbo_defined.proofs.Walks.{function_rows, adt_rows, var_plain, type_plain, con_plain}
use Rattle.limbo_defined.proofs.Wanting.{each_functions, none_more, plain_more}
use Rattle.limbo_defined.proofs.wants.push_member.Goals as goal

pub returns-in-Function-clause-wanted : goal.returns-in-Function-clause-wanted
returns-in-Function-clause-wanted c =
    let a = c.in-Function in
    let p = c.args.path.now in
    let adt = Some c.args.adt.now in
    let e = ap (functions_in adt) (function_rows c.args.m.now a.names a.of a.span a.is p c.deref.result.now c.deref.ensures.value)
    ∙ each_functions p adt (names_of c.deref.result.now) (view_fn a.of.value) in
    IfOk-weaker c.push_names.result _ _ (λ u h. h ∙ ap (λ (z : List Wanted). wanted_of c.args.all.now.items ++ z) (sym e))
    c.push_names.ensures.wanted

pub returns-in-Adt-clause-wanted : goal.returns-in-Adt-clause-wanted
returns-in-Adt-clause-wanted c =
    let a = c.in-Adt in
    let adt = Some c.args.adt.now in
    none_more (wanted_of c.args.all.now.items) adt (rows_of_member c.args.path.now (view_member c.args.m.now))
    (ap (functions_in adt) (adt_rows c.args.m.now a.name a.members a.pick a.span a.is c.args.path.now a.members.items refl))

pub returns-in-Var-clause-wanted : goal.returns-in-Var-clause-wanted
returns-in-Var-clause-wanted c = let a = c.in-Var in plain_more _ (Some c.args.adt.now) _
    (var_plain c.args.m.now a.names a.of a.span a.is c.args.path.now)

pub returns-in-Con-clause-wanted : goal.returns-in-Con-clause-wanted
returns-in-Con-clause-wanted c = let a = c.in-Con in plain_more _ (Some c.args.adt.now) _
    (con_plain c.args.m.now a.names a.value a.span a.is c.args.path.now)

pub returns-in-Type-clause-wanted : goal.returns-in-Type-clause-wanted
returns-in-Type-clause-wanted c = let a = c.in-Type in plain_more _ (Some c.args.adt.now) _
    (type_plain c.args.m.now a.names a.of a.span a.is c.args.path.now)
