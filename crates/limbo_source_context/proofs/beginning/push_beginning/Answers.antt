use Rattle.std.proofs.Common.{◌≡◌, None, Some, sym, ◌∙◌}
use Rattle.limbo_typed.specs.declared.module.Initial.{Initial}
use Rattle.limbo_entries.specs.View.{entries_of}
use Rattle.limbo_outline.proofs.Places.{entry_there}
use Rattle.limbo_constant_values.specs.Answers.{IsKnown}
use Rattle.limbo_imports.specs.Imports.{meaning_at}
use Rattle.limbo_source_context.specs.Beginning.{global_in}
use Rattle.limbo_source_context.proofs.Beginnings.{not_global, no_constant, it_begins, begins_so, begins_not, begins_more}
use Rattle.limbo_source_context.proofs.beginning.push_beginning.Goals as goal

pub returns-in-None : goal.returns-in-None
returns-in-None c =
    let es = entries_of c.args.table.now.entries.items in
    let m = c.args.implemented in
    let k = c.args.number in
    let s = c.args.known.now in
    let h : global_in (meaning_at s.meant.meanings.items k) ≡ None = rw c.deref.ensures.value at (sym c.global_at.ensures ∙ c.in-None.is) in
    begins_not es m k c.args.beginnings.now.items (not_global es m k s.meant.meanings.items s.initials.items
    c.requires.known.meant.meant.meanings c.requires.known.initials h)

pub returns-in-None-initial_at : goal.returns-in-None-initial_at
returns-in-None-initial_at c =
    let es = entries_of c.args.table.now.entries.items in
    let m = c.args.implemented in
    let k = c.args.number in
    let s = c.args.known.now in
    begins_not es m k c.args.beginnings.now.items
    (no_constant es m k s.meant.meanings.items s.initials.items c.requires.known.meant.meant.meanings c.requires.known.initials
    (rw c.deref-in-Some.ensures.value at c.in-None-initial_at.ensures.none))

pub returns-in_ok-push-in-Some-initial_at : goal.returns-in_ok-push-in-Some-initial_at
returns-in_ok-push-in-Some-initial_at c =
    let es = entries_of c.args.table.now.entries.items in
    let m = c.args.implemented in
    let k = c.args.number in
    let s = c.args.known.now in
    let a = c.requires.known.meant.meant.meanings in
    let b = c.requires.known.initials in
    let x : Initial = record { global = c.in-Some.global; value = c.in_ok-value-in-Some-initial_at.value } in
    let known = c.in-Some-initial_at.constant.now in
    let is : global_in (meaning_at s.meant.meanings.items k) ≡ Some x.global = rw c.deref.ensures.value at (sym c.global_at.ensures ∙
    c.in-Some.is) in
    let there : IsKnown s.initials.items k known = rw c.deref-in-Some.ensures.value at c.in-Some-initial_at.ensures.some in
    let value = c.in_ok-value-in-Some-initial_at.ensures in
    let e = entry_there c.args.table.now.entries.items k c.requires.there in
    rw c.in_ok-push-in-Some-initial_at.ensures.items
    (begins_more es m k c.args.beginnings.now.items x (it_begins es m k s.meant.meanings.items s.initials.items a b x known is there value
    e.0 e.1)
    (begins_so es m k s.meant.meanings.items s.initials.items a b x known is there value))
