use Rattle.std.proofs.Common.{◌≡◌, ℕ, Some, ap, subst, arith}
use Rattle.limbo_tree.specs.View.{view_expr}
use Rattle.limbo_entries.specs.View.{entries_of, view_entry}
use Rattle.limbo_entries.specs.declared.table.Table.{Table}
use Rattle.limbo_constant_values.specs.Values.{IsNotConstant}
use Rattle.limbo_constant_values.proofs.Needing.{code_entry_is}
use Rattle.limbo_constant_values.proofs.Valuing.{eval_some, eval_none, ready_at, none_at, sets_at}
use Rattle.limbo_constant_values.proofs.values.set_value.Goals as goal

pub returns-in-None-2-clause-not_constant : goal.returns-in-None-2-clause-not_constant
returns-in-None-2-clause-not_constant c = λ n e.
    let same : c.args.number ≡ n = cc in
    let ev = rw c.deref.ensures.value at c.in_ok-evaluate_at-in-Some.ensures in
    let none = eval_none c.args.naming.now c.requires.names c.args.values.now.items c.requires.sound _ (Some c.in-Some.iota) (ap Some c.counted-counter.ensures)
    (view_expr c.in-Some.value.now) c.in_ok-evaluate_at-in-Some.field-0 ev
    (ready_at c.args.naming.now c.requires.names c.args.values.now.items c.requires.sound c.args.number (view_entry c.entry-entry.result) (view_expr c.in-Some.value.now)
    c.in-Some.iota (code_entry_is c.args.naming.now c.args.table.now c.args.number (view_entry c.entry-entry.result) c.requires.table c.entry-entry.ensures) c.in-Some.ensures.some c.requires.ready) c.in-None-2.is in
    let bad = none_at c.args.naming.now c.requires.names c.args.values.now.items c.requires.sound c.args.number (view_entry c.entry-entry.result) (view_expr c.in-Some.value.now)
    c.in-Some.iota (code_entry_is c.args.naming.now c.args.table.now c.args.number (view_entry c.entry-entry.result) c.requires.table c.entry-entry.ensures) c.in-Some.ensures.some none in
    subst (λ (z : ℕ). IsNotConstant (entries_of c.args.table.now.entries.items) c.args.naming.now.implemented z) same
    (subst (λ (z : Table). IsNotConstant (entries_of z.entries.items) c.args.naming.now.implemented c.args.number) c.requires.table bad)

pub returns-clause-sets : goal.returns-clause-sets
returns-clause-sets c =
    let ev = rw c.deref.ensures.value at c.in_ok-evaluate_at-in-Some.ensures in
    sets_at c.args.naming.now c.requires.names c.args.values.now.items c.requires.sound c.args.number (view_entry c.entry-entry.result) (view_expr c.in-Some.value.now)
    c.in-Some.iota (code_entry_is c.args.naming.now c.args.table.now c.args.number (view_entry c.entry-entry.result) c.requires.table c.entry-entry.ensures) c.in-Some.ensures.some c.in-Some-2.constant (let a = c.requires.there in let b = c.requires.many in omega arith)
    (eval_some c.args.naming.now c.requires.names c.args.values.now.items c.requires.sound _ (Some c.in-Some.iota) (ap Some c.counted-counter.ensures)
    (view_expr c.in-Some.value.now) c.in_ok-evaluate_at-in-Some.field-0 ev c.in-Some-2.constant c.in-Some-2.is)
