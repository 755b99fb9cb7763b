use Rattle.std.proofs.Common.{◌≡◌, ◌<◌, ℕ, List, Some, length, map, slice_get, ap, subst, ◌∙◌, arith}
use Rattle.std.proofs.lemmas.List.{map-append}
use Rattle.limbo_declarations.specs.View.{view_declared}
use Rattle.limbo_entries.specs.View.{entries_of, view_entry}
use Rattle.limbo_layout.specs.View.{view_fields, view_variant, view_defs}
use Rattle.limbo_naming.specs.Naming.{is_adt}
use Rattle.limbo_naming.proofs.Places.{as_many, entry_at}
use Rattle.limbo_headers.proofs.limbo_type_names_lemmas.Rows.{one_more}
use Rattle.limbo_source_adts.specs.Definitions.{FieldsAre, VariantsAre}
use Rattle.limbo_source_adts.proofs.Insides.{rows_many, row_is, row_there, take_many}
use Rattle.limbo_source_adts.proofs.Collecting.{adt_more, adt_none, not_adt}
use Rattle.limbo_source_adts.proofs.definitions.push_adt.Goals as goal

pub bounds-inside-number : goal.bounds-inside-number
bounds-inside-number c =
    let a = c.requires.inside.many in
    let b = rows_many c.args.inside.now in
    let m = as_many c.args.table.now.entries.items in
    let t = c.requires.there in
    omega arith

pub fields_of-requires-clause-there : goal.fields_of-requires-clause-there
fields_of-requires-clause-there c = λ i n h.
    let a = c.requires.inside.many in
    let b = rows_many c.args.inside.now in
    let m = as_many c.args.table.now.entries.items in
    let t = c.requires.there in
    let l : c.args.number < length c.args.inside.now = omega arith in
    let x = row_there (entries_of c.args.table.now.entries.items) c.args.inside.now c.requires.inside c.args.number c.index-inside-number.result l c.index-inside-number.is i n
    (subst (λ (z : List ℕ). slice_get z i ≡ Some n) c.deref.ensures.value h) in
    omega arith

pub variants_of-requires-clause-there : goal.variants_of-requires-clause-there
variants_of-requires-clause-there c = λ i n h.
    let a = c.requires.inside.many in
    let b = rows_many c.args.inside.now in
    let m = as_many c.args.table.now.entries.items in
    let t = c.requires.there in
    let l : c.args.number < length c.args.inside.now = omega arith in
    let x = row_there (entries_of c.args.table.now.entries.items) c.args.inside.now c.requires.inside c.args.number c.index-inside-number.result l c.index-inside-number.is i n
    (subst (λ (z : List ℕ). slice_get z i ≡ Some n) c.deref-in-Adt.ensures.value h) in
    omega arith

pub returns-in_ok-push-in-Adt : goal.returns-in_ok-push-in-Adt
returns-in_ok-push-in-Adt c = λ m headed are.
    let a = c.requires.inside.many in
    let b = rows_many c.args.inside.now in
    let s = as_many c.args.table.now.entries.items in
    let t = c.requires.there in
    let l : c.args.number < length c.args.inside.now = omega arith in
    let all = c.args.table.now.entries.items in
    let es = entries_of all in
    let k = c.args.number in
    let x = c.index-entry.result.now in
    let i = entry_at all k x t c.index-entry.ensures in
    let row = row_is es c.args.inside.now c.requires.inside k c.index-inside-number.result l c.index-inside-number.is in
    let h : k < length es = omega arith in
    rw c.in_ok-push-in-Adt.ensures.items
    (rw map-append (adt_more es m k (view_defs c.args.adts.now.items) (view_entry x) _ (one_more all k x t c.index-entry.ensures) (take_many es k h) are
    (ap (λ d. is_adt (view_declared d)) c.in-Adt.is)
    (record {
      entry = view_entry x;
      there = i;
      is = ap (λ d. is_adt (view_declared d)) c.in-Adt.is;
      named = c.in_ok-name-in-Adt.ensures.cases;
      fields = subst (λ (z : List ℕ). FieldsAre es m z (view_fields c.in_ok-fields-in-Adt.fields.items)) (c.deref.ensures.value ∙ row) (c.in_ok-fields-in-Adt.ensures m headed);
      variants = subst (λ (z : List ℕ). VariantsAre es m z (map view_variant c.in_ok-picks-in-Adt.picks.items)) (c.deref-in-Adt.ensures.value ∙ row)
          (c.in_ok-picks-in-Adt.ensures m headed);
    })))

pub returns-in_default : goal.returns-in_default
returns-in_default c = λ m headed are.
    let all = c.args.table.now.entries.items in
    let es = entries_of all in
    let k = c.args.number in
    let x = c.index-entry.result.now in
    let i = entry_at all k x c.requires.there c.index-entry.ensures in
    adt_none es m k (view_defs c.args.adts.now.items) (view_entry x) (one_more all k x c.requires.there c.index-entry.ensures) are (not_adt x.row.declared c.in_default.not-Adt)
