use Rattle.std.proofs.Common.{◌≡◌, ◌<◌, ℕ, List, Some, length, map, slice_get, ap, subst, ◌∙◌, arith}
use Rattle.std.proofs.lemmas.List.{map-append}
use Rattle.limbo_declarations.specs.View.{view_declared}
use Rattle.limbo_entries.specs.View.{entries_of, view_entry}
use Rattle.limbo_layout.specs.View.{view_fields, view_variant}
use Rattle.limbo_naming.specs.Naming.{is_variant}
use Rattle.limbo_naming.proofs.Places.{as_many, entry_at}
use Rattle.limbo_source_adts.specs.Definitions.{FieldsAre}
use Rattle.limbo_source_adts.proofs.Insides.{rows_many, row_is, row_there}
use Rattle.limbo_source_adts.proofs.Collecting.{variant_push, variant_skip, not_case}
use Rattle.limbo_source_adts.proofs.definitions.push_variant.Goals as goal

pub bounds-inside-number : goal.bounds-inside-number
bounds-inside-number c =
    let a = c.requires.inside.many in
    let b = rows_many c.args.inside.now in
    let m = as_many c.args.table.now.entries.items in
    let t = c.requires.there in
    omega arith

pub fields_of-requires-clause-there : goal.fields_of-requires-clause-there
fields_of-requires-clause-there c = λ i n h.
    let a = c.requires.inside.many in
    let b = rows_many c.args.inside.now in
    let m = as_many c.args.table.now.entries.items in
    let t = c.requires.there in
    let l : c.args.number < length c.args.inside.now = omega arith in
    let x = row_there (entries_of c.args.table.now.entries.items) c.args.inside.now c.requires.inside c.args.number c.index-inside-number.result l c.index-inside-number.is i n
    (subst (λ (z : List ℕ). slice_get z i ≡ Some n) c.deref.ensures.value h) in
    omega arith

pub returns-in_ok-push-in-Case : goal.returns-in_ok-push-in-Case
returns-in_ok-push-in-Case c = λ m ks headed are.
    let a = c.requires.inside.many in
    let b = rows_many c.args.inside.now in
    let s = as_many c.args.table.now.entries.items in
    let t = c.requires.there in
    let l : c.args.number < length c.args.inside.now = omega arith in
    let all = c.args.table.now.entries.items in
    let es = entries_of all in
    let k = c.args.number in
    let x = c.index-entry.result.now in
    let i = entry_at all k x t c.index-entry.ensures in
    let row = row_is es c.args.inside.now c.requires.inside k c.index-inside-number.result l c.index-inside-number.is in
    rw c.in_ok-push-in-Case.ensures.items
    (rw map-append (variant_push es m ks (map view_variant c.args.variants.now.items) k (view_entry x) _ are i (ap (λ d. is_variant (view_declared d)) c.in-Case.is)
    c.in_ok-name-in-Case.ensures.cases
    (subst (λ (z : List ℕ). FieldsAre es m z (view_fields c.in_ok-fields-in-Case.fields.items)) (c.deref.ensures.value ∙ row) (c.in_ok-fields-in-Case.ensures m headed))))

pub returns-in_default : goal.returns-in_default
returns-in_default c = λ m ks headed are.
    let all = c.args.table.now.entries.items in
    let es = entries_of all in
    let k = c.args.number in
    let x = c.index-entry.result.now in
    let i = entry_at all k x c.requires.there c.index-entry.ensures in
    variant_skip es m ks (map view_variant c.args.variants.now.items) k (view_entry x) are i (not_case x.row.declared c.in_default.not-Case)
