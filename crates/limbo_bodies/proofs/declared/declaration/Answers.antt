use Rattle.std.proofs.Common.{ℕ, List, Option, sym, ap, subst}
use Rattle.limbo_tree.specs.View.{name_of}
use Rattle.limbo_entries.specs.View.{entries_of}
use Rattle.limbo_bodies.specs.Definitions.{IsOf, by_name}
use Rattle.limbo_bodies.proofs.Declaring.{some_of, none_of}
use Rattle.limbo_bodies.proofs.declared.declaration.Goals as goal

pub returns-in-None-part-clause-some : goal.returns-in-None-part-clause-some
returns-in-None-part-clause-some c =
    let es = entries_of c.args.table.now.entries.items in
    subst (λ (z : Option (List ℕ)). IsOf es c.args.implemented c.args.function.now.name.text z c.in-Some.found) (sym (ap name_of
    c.in-None-part.is))
    (by_name c.in-Some.found c.in-Some.ensures.found)

pub returns-in-Some-part-clause-some : goal.returns-in-Some-part-clause-some
returns-in-Some-part-clause-some c =
    let es = entries_of c.args.table.now.entries.items in
    some_of es c.args.implemented c.args.function.now.name.text (name_of c.args.function.now.part) c.in-Some-part.part.text
    c.in-Some.found c.member_of_adt.result
    c.in-Some.ensures.found (ap name_of c.in-Some-part.is) c.member_of_adt.ensures.some

pub returns-in-Some-part-clause-none : goal.returns-in-Some-part-clause-none
returns-in-Some-part-clause-none c =
    let es = entries_of c.args.table.now.entries.items in
    none_of es c.args.implemented c.args.function.now.name.text c.requires.once (name_of c.args.function.now.part)
    c.in-Some-part.part.text c.in-Some.found
    c.member_of_adt.result c.in-Some.ensures.found (ap name_of c.in-Some-part.is) c.member_of_adt.ensures.none
