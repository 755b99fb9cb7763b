use Rattle.std.proofs.Common.{subst, option_copied}
use Rattle.limbo_tree.specs.View.{view_expr}
use Rattle.limbo_entries.specs.View.{entries_of}
use Rattle.limbo_naming.specs.declared.naming.Named.{Named}
use Rattle.limbo_naming.specs.Told.{TellsOf}
use Rattle.limbo_constant_values.proofs.Answering.{found_some, found_none, unknown_some, unknown_none, nothing_none}
use Rattle.limbo_constant_values.proofs.meaning.meaning.Goals as goal

pub returns-in-Found-clause-some : goal.returns-in-Found-clause-some
returns-in-Found-clause-some c =
    let n = c.in-Some.ensures.named in
    found_some (entries_of c.args.naming.now.table.now.entries.items) c.args.naming.now.implemented c.requires.names.sight.once c.args.place.scope (option_copied c.args.place.counter)
    c.args.values.now (view_expr c.args.part.now) n.0 n.1 c.in-Found.number
    (subst (λ (z : Named). TellsOf c.args.naming.now c.args.place.scope n.0 z) c.in-Found.is n.2) c.value_at.result c.value_at.ensures.some

pub returns-in-Found-clause-none : goal.returns-in-Found-clause-none
returns-in-Found-clause-none c =
    let n = c.in-Some.ensures.named in
    found_none (entries_of c.args.naming.now.table.now.entries.items) c.args.naming.now.implemented c.requires.names.sight.once c.args.place.scope (option_copied c.args.place.counter)
    c.args.values.now (view_expr c.args.part.now) n.0 n.1 c.in-Found.number
    (subst (λ (z : Named). TellsOf c.args.naming.now c.args.place.scope n.0 z) c.in-Found.is n.2) c.value_at.result c.value_at.ensures.none

pub returns-in-Unknown-clause-some : goal.returns-in-Unknown-clause-some
returns-in-Unknown-clause-some c =
    let n = c.in-Some.ensures.named in
    unknown_some (entries_of c.args.naming.now.table.now.entries.items) c.args.naming.now.implemented c.requires.names.sight.once c.args.place.scope (option_copied c.args.place.counter)
    c.args.values.now (view_expr c.args.part.now) n.0 n.1
    (subst (λ (z : Named). TellsOf c.args.naming.now c.args.place.scope n.0 z) c.in-Unknown.is n.2) c.iota_value.result c.iota_value.ensures.some

pub returns-in-Unknown-clause-none : goal.returns-in-Unknown-clause-none
returns-in-Unknown-clause-none c =
    let n = c.in-Some.ensures.named in
    unknown_none (entries_of c.args.naming.now.table.now.entries.items) c.args.naming.now.implemented c.requires.names.sight.once c.args.place.scope (option_copied c.args.place.counter)
    c.args.values.now (view_expr c.args.part.now) n.0 n.1
    (subst (λ (z : Named). TellsOf c.args.naming.now c.args.place.scope n.0 z) c.in-Unknown.is n.2) c.iota_value.result c.iota_value.ensures.none

pub returns-in-Nothing-clause-none : goal.returns-in-Nothing-clause-none
returns-in-Nothing-clause-none c =
    let n = c.in-Some.ensures.named in
    let w = subst (λ (z : Named). TellsOf c.args.naming.now c.args.place.scope n.0 z) c.in-Nothing.is n.2 in
    nothing_none (entries_of c.args.naming.now.table.now.entries.items) c.args.naming.now.implemented c.requires.names.sight.once c.args.place.scope (option_copied c.args.place.counter)
    c.args.values.now (view_expr c.args.part.now) n.0 n.1 w.0 w.1
