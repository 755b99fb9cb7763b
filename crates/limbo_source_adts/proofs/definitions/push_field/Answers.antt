use Rattle.std.proofs.Common.{◌<◌, length, subst, arith}
use Rattle.std.proofs.lemmas.List.{map-append}
use Rattle.limbo_entries.specs.View.{entries_of, view_entry}
use Rattle.limbo_naming.proofs.Lists.{filled}
use Rattle.limbo_naming.proofs.Places.{as_many, entry_at, state_at}
use Rattle.limbo_headers.specs.declared.header.Heading.{Heading}
use Rattle.limbo_headers.specs.Headers.{Heads}
use Rattle.limbo_source_adts.proofs.Collecting.{field_more, field_none}
use Rattle.limbo_source_adts.proofs.definitions.push_field.Goals as goal

pub returns-in_ok-push-in-Variable : goal.returns-in_ok-push-in-Variable
returns-in_ok-push-in-Variable c = λ m ks headed are.
    let all = c.args.table.now.entries.items in
    let k = c.args.number in
    let x = c.index-entry.result.now in
    let i = entry_at all k x c.requires.there c.index-entry.ensures in
    let a = c.requires.there in
    let b = c.requires.many in
    let l : k < length c.args.headings.now = omega arith in
    let h = headed k (view_entry x) c.index-headings-number.result i (state_at c.args.headings.now k c.index-headings-number.result l c.index-headings-number.is) in
    rw c.in_ok-push-in-Variable.ensures.items
    (rw map-append (field_more (entries_of all) m ks _ k (view_entry x) c.in-Variable.ty _ are i
    (subst (λ (z : Heading). Heads (entries_of all) m (view_entry x) z) c.in-Variable.is h) c.in_ok-name-in-Variable.ensures.cases (rw c.deref.ensures at c.in_ok-ty-in-Variable.ensures)))

pub returns-in_default : goal.returns-in_default
returns-in_default c = λ m ks headed are.
    let all = c.args.table.now.entries.items in
    let k = c.args.number in
    let a = c.requires.there in
    let b = c.requires.many in
    let n = as_many all in
    let x = filled (entries_of all) k (omega arith) in
    let l : k < length c.args.headings.now = omega arith in
    let h = headed k x.0 c.index-headings-number.result x.1 (state_at c.args.headings.now k c.index-headings-number.result l c.index-headings-number.is) in
    field_none (entries_of all) m ks _ k x.0 c.index-headings-number.result are x.1 h c.in_default.not-Variable
