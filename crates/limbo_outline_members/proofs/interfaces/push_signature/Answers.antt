use Rattle.std.proofs.Common.{◌<◌, length, map, sym, subst, arith}
use Rattle.std.proofs.lemmas.List.{map-append}
use Rattle.limbo_typed.specs.View.{view_signature}
use Rattle.limbo_entries.specs.View.{entries_of, view_entry}
use Rattle.limbo_headers.specs.declared.header.Heading.{Heading}
use Rattle.limbo_headers.specs.Headers.{Heads}
use Rattle.limbo_meanings.proofs.Places.{entry_at}
use Rattle.limbo_outline.proofs.Places.{item_at}
use Rattle.limbo_outline_members.proofs.Telling.{signature_yes, signature_no}
use Rattle.limbo_outline_members.proofs.interfaces.push_signature.Goals as goal

pub returns-then-not-is_called : goal.returns-then-not-is_called
returns-then-not-is_called c = λ m headed listed.
    let all = c.args.table.now.entries.items in
    let k = c.args.number in
    let x = c.index-entry.result.now in
    signature_no (entries_of all) m c.args.builtin c.args.outer k (view_entry x) (map view_signature c.args.signatures.now.items)
    (entry_at all k x c.requires.there c.index-entry.ensures) (sym c.if-not-is_called.ensures) listed

pub returns-in_ok-push-in-Function : goal.returns-in_ok-push-in-Function
returns-in_ok-push-in-Function c = λ m headed listed.
    let all = c.args.table.now.entries.items in
    let k = c.args.number in
    let x = c.index-entry.result.now in
    let at = entry_at all k x c.requires.there c.index-entry.ensures in
    let h = c.index-headings-number.result in
    let a = c.requires.there in
    let b = c.requires.many in
    let l : k < length c.args.headings.now = omega arith in
    let w = headed k (view_entry x) h at (item_at c.args.headings.now k h l c.index-headings-number.is) in
    let told = c.in_ok-told-in-Function.told in
    let e = c.in_ok-told-in-Function.ensures in
    rw c.in_ok-push-in-Function.ensures.items
    (rw map-append
    (signature_yes (entries_of all) m c.args.builtin c.args.outer k (view_entry x) c.in-Function.header (map view_signature
    c.args.signatures.now.items)
    (view_signature told) (subst (λ (z : Heading). Heads (entries_of all) m (view_entry x) z) c.in-Function.is w) at (sym
    c.if-not-is_called.ensures)
    e.name (rw c.deref.ensures at e.of) listed))
