use Rattle.std.proofs.Common.{map, sym}
use Rattle.std.proofs.lemmas.List.{map-append}
use Rattle.limbo_entries.specs.View.{entries_of}
use Rattle.limbo_context.specs.View.{view_valued}
use Rattle.limbo_outline.proofs.Places.{entry_there}
use Rattle.limbo_outline.proofs.Telling.{constant_yes, constant_no}
use Rattle.limbo_outline.proofs.constants.push_constant.Goals as goal

pub returns-in_ok-push-in-Some : goal.returns-in_ok-push-in-Some
returns-in_ok-push-in-Some c = λ listed.
    let all = c.args.table.now.entries.items in
    let k = c.args.number in
    let x = entry_there all k c.requires.there in
    let told = c.in_ok-told-in-Some.told in
    rw c.in_ok-push-in-Some.ensures.items
    (rw map-append
    (constant_yes (entries_of all) c.args.implemented c.args.values.now k c.in-Some.constant.now x.0 (map view_valued c.args.constants.now.items) (view_valued told)
    c.requires.values (sym c.in-Some.ensures) x.1 c.in_ok-told-in-Some.ensures listed))

pub returns-in-None : goal.returns-in-None
returns-in-None c = λ listed.
    let all = c.args.table.now.entries.items in
    let k = c.args.number in
    let x = entry_there all k c.requires.there in
    constant_no (entries_of all) c.args.implemented c.args.values.now k x.0 (map view_valued c.args.constants.now.items) c.requires.values (sym c.in-None.ensures) x.1
    listed
