use Rattle.std.proofs.Common.{map, sym}
use Rattle.std.proofs.lemmas.List.{map-append}
use Rattle.limbo_typed.specs.View.{view_declared}
use Rattle.limbo_entries.specs.View.{entries_of, view_entry}
use Rattle.limbo_meanings.proofs.Places.{entry_at}
use Rattle.limbo_source_context.proofs.limbo_outline_lemmas.Places.{item_at}
use Rattle.limbo_modules.proofs.Telling.{declared_yes, declared_no}
use Rattle.limbo_modules.proofs.declared.push_declared.Goals as goal

pub returns-then-not-is_called : goal.returns-then-not-is_called
returns-then-not-is_called c = λ listed.
    let all = c.args.table.now.entries.items in
    let k = c.args.number in
    let x = c.index-entry.result.now in
    declared_no (entries_of all) c.args.implemented c.args.functions.now k (view_entry x) (map view_declared c.args.declared.now.items)
    (entry_at all k x c.requires.there c.index-entry.ensures) (sym c.if-not-is_called.ensures) listed

pub returns-in_ok-push-in-Some : goal.returns-in_ok-push-in-Some
returns-in_ok-push-in-Some c = λ listed.
    let all = c.args.table.now.entries.items in
    let k = c.args.number in
    let x = c.index-entry.result.now in
    rw c.in_ok-push-in-Some.ensures.items
    (rw map-append
    (declared_yes (entries_of all) c.args.implemented c.args.functions.now c.args.meanings.now k c.in_ok-function.function (view_entry x)
    c.in-Some.callee.now (view_declared c.in_ok-told-in-Some.told) (map view_declared c.args.declared.now.items) c.requires.meanings
    (entry_at all k x c.requires.there c.index-entry.ensures) (sym c.if-not-is_called.ensures) c.in_ok-function.ensures
    (item_at c.args.functions.now c.in_ok-function.function c.in-Some.callee.now c.in-Some.ensures.lookup.3.0 c.in-Some.ensures.lookup.1)
    c.in_ok-told-in-Some.ensures listed))
