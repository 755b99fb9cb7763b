use Rattle.std.proofs.Common.{List, [], map, refl, sym, subst}
use Rattle.std.proofs.lemmas.Option.{IfSome_then}
use Rattle.limbo_tree.specs.View.{view_member, members_of}
use Rattle.limbo_declarations.specs.Rows.{Row}
use Rattle.limbo_defined.specs.Defined.{IsNested}
use Rattle.limbo_defined.proofs.Holding.{none_then, adt_nested, nested_adt}
use Rattle.limbo_includes.proofs.Lists.{contains_here}
use Rattle.limbo_defined.proofs.Adts.{row_is, no_nested}
use Rattle.limbo_defined.proofs.inner.inner_of_row.Goals as goal

pub returns-in-Adt-clause-some : goal.returns-in-Adt-clause-some
returns-in-Adt-clause-some c =
    let r = c.args.row in
    let ms = members_of (map view_member c.in-Adt.members.now) in
    IfSome_then c.inner_function.result c.inner_function.ensures.some
    (λ n h. subst (λ (z : List Row). IsNested z r.path.now n.now.text) (sym (row_is r c.in-Adt.members c.in-Adt.pick c.in-Adt.is))
    (adt_nested n.now.text r.path.now r.name.now.text ms _ (h r.path.now)))

pub returns-in-Adt-clause-none : goal.returns-in-Adt-clause-none
returns-in-Adt-clause-none c =
    let r = c.args.row in
    let ms = members_of (map view_member c.in-Adt.members.now) in
    none_then c.inner_function.result c.inner_function.ensures.none
    (λ f path name h. f path name (nested_adt name r.path.now r.name.now.text ms _ path
    (subst (λ (z : List Row). IsNested z path name) (row_is r c.in-Adt.members c.in-Adt.pick c.in-Adt.is) h)))

pub returns-in_default-clause-none : goal.returns-in_default-clause-none
returns-in_default-clause-none c = no_nested c.args.row c.in_default.not-Adt

pub returns-in-Adt-clause-placed : goal.returns-in-Adt-clause-placed
returns-in-Adt-clause-placed c =
    IfSome_then c.inner_function.result c.inner_function.ensures.placed
    (λ n h. record {
      in_row = c.args.row;
      members = c.in-Adt.members;
      pick = c.in-Adt.pick;
      there = contains_here c.args.row [];
      in_text = refl;
      is_adt = c.in-Adt.is;
      names = h;
    })
