use Rattle.std.proofs.Common.{◌<◌, length, map, ap, subst, ◌∙◌, arith}
use Rattle.std.proofs.lemmas.List.{map-append}
use Rattle.limbo_entries.specs.View.{entries_of, view_entry}
use Rattle.limbo_headers.specs.declared.header.Heading.{Heading}
use Rattle.limbo_headers.specs.Headers.{Heads}
use Rattle.limbo_meanings.proofs.Places.{entry_at}
use Rattle.limbo_outline.proofs.Places.{entry_there, item_at}
use Rattle.limbo_types.specs.View.{view_ty}
use Rattle.limbo_typed.specs.View.{view_exception}
use Rattle.limbo_outline.proofs.Telling.{exception_yes, exception_no}
use Rattle.limbo_outline.proofs.exceptions.push_exception.Goals as goal

pub returns-in_ok-push-in-Exception : goal.returns-in_ok-push-in-Exception
returns-in_ok-push-in-Exception c = λ m headed listed.
    let all = c.args.table.now.entries.items in
    let k = c.args.number in
    let x = c.index-entry.result.now in
    let at = entry_at all k x c.requires.there c.index-entry.ensures in
    let h = c.index-headings-number.result in
    let a = c.requires.there in
    let b = c.requires.many in
    let l : k < length c.args.headings.now = omega arith in
    let w = headed k (view_entry x) h at (item_at c.args.headings.now k h l c.index-headings-number.is) in
    let made = c.in_ok-exception-in-Exception.exception in
    let e = c.in_ok-exception-in-Exception.ensures in
    rw c.in_ok-push-in-Exception.ensures.items
    (rw map-append
    (exception_yes (entries_of all) m c.args.module_name.now k (view_entry x) c.in-Exception.values (map view_exception c.args.exceptions.now.items)
    (view_exception made) (subst (λ (z : Heading). Heads (entries_of all) m (view_entry x) z) c.in-Exception.is w) at e.of_module e.name
    (e.values ∙ ap (map view_ty) c.deref.ensures.value) listed))

pub returns-in_default : goal.returns-in_default
returns-in_default c = λ m headed listed.
    let all = c.args.table.now.entries.items in
    let k = c.args.number in
    let x = entry_there all k c.requires.there in
    let h = c.index-headings-number.result in
    let a = c.requires.there in
    let b = c.requires.many in
    let l : k < length c.args.headings.now = omega arith in
    let w = headed k x.0 h x.1 (item_at c.args.headings.now k h l c.index-headings-number.is) in
    exception_no (entries_of all) m c.args.module_name.now k x.0 h (map view_exception c.args.exceptions.now.items) w c.in_default.not-Exception x.1 listed
