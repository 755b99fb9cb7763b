use Rattle.std.proofs.Common.{map, sym}
use Rattle.std.proofs.lemmas.List.{map-append}
use Rattle.limbo_typed.specs.View.{view_interface}
use Rattle.limbo_entries.specs.View.{entries_of, view_entry}
use Rattle.limbo_meanings.proofs.Places.{entry_at}
use Rattle.limbo_outline_members.proofs.Telling.{interface_yes, interface_no}
use Rattle.limbo_outline_members.proofs.interfaces.push_interface.Goals as goal

pub returns-then-not-is_of_kind : goal.returns-then-not-is_of_kind
returns-then-not-is_of_kind c = λ listed.
    let all = c.args.table.now.entries.items in
    let k = c.args.number in
    let x = c.index-entry.result.now in
    interface_no (entries_of all) c.args.implemented c.args.builtin k (view_entry x) (map view_interface c.args.interfaces.now.items)
    (entry_at all k x c.requires.there c.index-entry.ensures) (sym c.if-not-is_of_kind.ensures) listed

pub returns : goal.returns
returns c = λ listed.
    let all = c.args.table.now.entries.items in
    let k = c.args.number in
    let x = c.index-entry.result.now in
    rw c.in_ok-push.ensures.items
    (rw map-append
    (interface_yes (entries_of all) c.args.implemented c.args.builtin k (view_entry x) (map view_interface c.args.interfaces.now.items)
    (view_interface (record { name = c.in_ok-name.name; functions = c.in_ok-functions.functions }))
    (entry_at all k x c.requires.there c.index-entry.ensures) (sym c.if-not-is_of_kind.ensures) c.in_ok-name.ensures.cases
    (c.in_ok-functions.ensures c.args.implemented c.requires.headed) listed))
