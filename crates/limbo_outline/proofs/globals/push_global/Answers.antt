use Rattle.std.proofs.Common.{◌≡◌, true, map, sym, subst}
use Rattle.std.proofs.lemmas.List.{map-append}
use Rattle.limbo_entries.specs.View.{entries_of, view_entry}
use Rattle.limbo_meanings.proofs.Places.{entry_at}
use Rattle.limbo_outline.proofs.Places.{one_entry}
use Rattle.limbo_types.specs.Types.{Ty}
use Rattle.limbo_typed.specs.View.{view_var}
use Rattle.limbo_entries.specs.Entries as entries
use Rattle.limbo_meanings.specs.Kinds.{has_kind}
use Rattle.limbo_outline.specs.Outline.{HasType}
use Rattle.limbo_outline.proofs.Telling.{global_yes, global_no}
use Rattle.limbo_outline.proofs.globals.push_global.Goals as goal

pub returns-then-not-is_of_kind-clause-globals : goal.returns-then-not-is_of_kind-clause-globals
returns-then-not-is_of_kind-clause-globals c = λ listed.
    let all = c.args.table.now.entries.items in
    let k = c.args.number in
    let x = c.index-entry.result.now in
    let at = entry_at all k x c.requires.there c.index-entry.ensures in
    global_no (entries_of all) c.args.implemented k (view_entry x) (map view_var c.args.globals.now.items) at (sym c.if-not-is_of_kind.ensures) listed

pub variable_type-requires-clause-global : goal.variable_type-requires-clause-global
variable_type-requires-clause-global c = λ e i.
    let all = c.args.table.now.entries.items in
    let es = entries_of all in
    let k = c.args.number in
    let x = c.index-entry.result.now in
    let at = entry_at all k x c.requires.there c.index-entry.ensures in
    subst (λ (z : entries.Entry). has_kind es c.args.implemented 0 z ≡ true) (one_entry es k (view_entry x) e at i) (sym c.if-not-is_of_kind.ensures)

pub returns-in_ok-push-in-Ok-clause-globals : goal.returns-in_ok-push-in-Ok-clause-globals
returns-in_ok-push-in-Ok-clause-globals c = λ listed.
    let all = c.args.table.now.entries.items in
    let es = entries_of all in
    let k = c.args.number in
    let x = c.index-entry.result.now in
    let at = entry_at all k x c.requires.there c.index-entry.ensures in
    let made = c.in_ok-made-in-Ok.made in
    rw c.in_ok-push-in-Ok.ensures.items
    (rw map-append
    (global_yes es c.args.implemented k (view_entry x) (map view_var c.args.globals.now.items) (view_var made) at (sym c.if-not-is_of_kind.ensures)
    c.in_ok-made-in-Ok.ensures.name
    (subst (λ (z : Ty). HasType es c.args.implemented (view_entry x) z) (sym c.in_ok-made-in-Ok.ensures.ty) (c.in-Ok.ensures.typed (view_entry x) at)) listed))
