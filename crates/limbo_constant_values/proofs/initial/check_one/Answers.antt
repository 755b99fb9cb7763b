use Rattle.std.proofs.Common.{◌≡◌, ℕ, None, refl, subst}
use Rattle.limbo_tree.specs.View.{view_expr}
use Rattle.limbo_entries.specs.View.{entries_of, view_entry}
use Rattle.limbo_constant_values.specs.Values.{IsNotConstant}
use Rattle.limbo_constant_values.proofs.Needing.{code_entry_is}
use Rattle.limbo_constant_values.proofs.Valuing.{eval_some, eval_none}
use Rattle.limbo_constant_values.proofs.Starting.{bad_initial, good_initial}
use Rattle.limbo_constant_values.proofs.initial.check_one.Goals as goal

pub returns-in-None-2-clause-not_constant : goal.returns-in-None-2-clause-not_constant
returns-in-None-2-clause-not_constant c = λ n e.
    let same : c.args.number ≡ n = cc in
    let none = eval_none c.args.naming.now c.requires.names c.args.values.now c.requires.sound _ None refl
    (view_expr c.in-Some.value.now) c.in_ok-evaluate_at-in-Some.field-0 c.in_ok-evaluate_at-in-Some.ensures (λ part q r x at is names v. c.requires.complete r x v) c.in-None-2.is in
    subst (λ (z : ℕ). IsNotConstant (entries_of c.args.naming.now.table.now.entries.items) c.args.naming.now.implemented z) same
    (bad_initial c.args.naming.now c.args.number (view_entry c.entry-entry.result) (view_expr c.in-Some.value.now) (code_entry_is c.args.naming.now c.args.table.now c.args.number (view_entry c.entry-entry.result) c.requires.table c.entry-entry.ensures) c.in-Some.ensures.some
    (c.is_nil.ensures.no c.if-is_nil.false) none)

pub returns-in-Some-2-clause-initial : goal.returns-in-Some-2-clause-initial
returns-in-Some-2-clause-initial c =
    good_initial c.args.naming.now c.args.number (view_entry c.entry-entry.result) (view_expr c.in-Some.value.now) (code_entry_is c.args.naming.now c.args.table.now c.args.number (view_entry c.entry-entry.result) c.requires.table c.entry-entry.ensures) c.in-Some.ensures.some
    c.in-Some-2._constant
    (eval_some c.args.naming.now c.requires.names c.args.values.now c.requires.sound _ None refl
    (view_expr c.in-Some.value.now) c.in_ok-evaluate_at-in-Some.field-0 c.in_ok-evaluate_at-in-Some.ensures c.in-Some-2._constant c.in-Some-2.is)
