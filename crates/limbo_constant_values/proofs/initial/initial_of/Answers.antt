use Rattle.std.proofs.Common.{None, refl}
use Rattle.std.proofs.lemmas.Result.{IfOk-weaker}
use Rattle.limbo_tree.specs.View.{view_expr}
use Rattle.limbo_entries.specs.View.{view_entry}
use Rattle.limbo_constant_values.proofs.Valuing.{eval_some, eval_none}
use Rattle.limbo_constant_values.proofs.Initials.{some_initial, none_initial}
use Rattle.limbo_constant_values.proofs.initial.initial_of.Goals as goal

pub returns-in-Some-clause-some : goal.returns-in-Some-clause-some
returns-in-Some-clause-some c = IfOk-weaker c.evaluate_at.result _ _ (λ v ev.
    some_initial c.args.naming.now c.args.table.now c.requires.table c.args.number (view_entry c.entry-entry.result) c.entry-entry.ensures (view_expr c.in-Some.value.now) c.in-Some.ensures.some v
    (λ x h. eval_some c.args.naming.now c.requires.names c.args.values.now c.requires.sound _ None refl (view_expr c.in-Some.value.now) v ev x h)) c.evaluate_at.ensures

pub returns-in-Some-clause-none : goal.returns-in-Some-clause-none
returns-in-Some-clause-none c = IfOk-weaker c.evaluate_at.result _ _ (λ v ev.
    none_initial c.args.naming.now c.args.table.now c.requires.table c.args.number (view_entry c.entry-entry.result) c.entry-entry.ensures (view_expr c.in-Some.value.now) c.in-Some.ensures.some v
    (λ h x. eval_none c.args.naming.now c.requires.names c.args.values.now c.requires.sound _ None refl (view_expr c.in-Some.value.now) v ev
    (λ part q r y at is names z. c.requires.complete r y z) h x)) c.evaluate_at.ensures
