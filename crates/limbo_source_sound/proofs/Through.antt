-- What is imported through a variable of the module is a member of the module type that the variable has.
use Rattle.std.proofs.Common.{◌≡◌, ℕ, Bool, true, false, List, Option, None, Some, refl, sym, ap, subst, ◌∙◌}
use Rattle.limbo_tree.specs.Types as tree
use Rattle.limbo_types.specs.Types as ty
use Rattle.limbo_types.specs.Types.{Ty}
use Rattle.limbo_declarations.specs.Rows as rows
use Rattle.limbo_declarations.specs.Rows.{Declared}
use Rattle.limbo_entries.specs.Entries as entries
use Rattle.limbo_entries.specs.Entries.{Entry, IsEntry, AreOnce, Finds}
use Rattle.limbo_naming.specs.Qualified.{Qualified, Simple, Member, of_type, named_type, stands_for, row_stands_for}
use Rattle.limbo_naming.specs.Naming as naming
use Rattle.limbo_naming.specs.Naming.{is_adt, is_module, is_variant, Leads, Names}
use Rattle.limbo_naming.specs.Direct.{IsDeclared}
use Rattle.limbo_naming.proofs.Unique.{one_found, found_first, stays, goes_on}
use Rattle.limbo_naming.proofs.Direct.{one_declared, by_declared}
use Rattle.limbo_type_names.specs.Numbers.{number_of}
use Rattle.limbo_type_names.specs.Means as means
use Rattle.limbo_type_names.specs.Means.{Means, Stands, RefersTo}
use Rattle.limbo_type_names.proofs.Knowing.{one_entry}
use Rattle.limbo_scope.specs.declared.meaning.Meaning.{Meaning}
use Rattle.limbo_scope.specs.declared.meaning.Meaning.TheVariants as meaning
use Rattle.limbo_context.specs.Context.{Context}
use Rattle.limbo_context.specs.declared.context.Imported.{Imported}
use Rattle.limbo_context.specs.declared.context.Origin.TheVariants as origin
use Rattle.limbo_meanings.specs.declared.kind.Kind.TheVariants as kind
use Rattle.limbo_meanings.specs.Kinds.{place, has_kind}
use Rattle.limbo_meanings.specs.Meanings.{meaning_of}
use Rattle.limbo_outline.specs.Outline as outline
use Rattle.limbo_outline.specs.Outline.{HasType}
use Rattle.limbo_outline.proofs.Numbers.{global_of, modules_by}
use Rattle.limbo_imports.specs.Imports.{origin_of, meaning_at, IsImport}
use Rattle.limbo_typed.specs.Typed.{Var}
use Rattle.limbo_typed.specs.Sound.{Each}
use Rattle.limbo_stated_sound.specs.limbo_typed_sound.Describing.{IsThrough}
use Rattle.limbo_source_context.specs.SourceContext.{IsContext}
use Rattle.limbo_source_context.proofs.Beginnings.{meant_at}
use Rattle.limbo_source_sound.proofs.Alike.{meant_module}
use Rattle.limbo_source_sound.proofs.Listing.{listed_each}
use Rattle.limbo_source_sound.proofs.Numbers.{module_from}

unlike : {A : Type 0} → (b : Bool) → b ≡ true → b ≡ false → A
unlike b x y = let z : true ≡ false = sym x ∙ y in absurd cc

-- ---- what stands for itself, and what is no module

adt_itself : (n : List ℕ) (d : Declared) → is_adt d ≡ true → stands_for n d ≡ None
adt_itself n (rows.Adt ms pick) h = refl
adt_itself n _ h = absurd cc

adt_alone : (d : Declared) → is_adt d ≡ true → is_module d ≡ false
adt_alone (rows.Adt ms pick) h = refl
adt_alone _ h = absurd cc

variant_itself : (n : List ℕ) (d : Declared) → is_variant d ≡ true → stands_for n d ≡ None
variant_itself n (rows.Case fs) h = refl
variant_itself n _ h = absurd cc

variant_alone : (d : Declared) → is_variant d ≡ true → is_module d ≡ false
variant_alone (rows.Case fs) h = refl
variant_alone _ h = absurd cc

module_itself : (n : List ℕ) (d : Declared) → is_module d ≡ true → stands_for n d ≡ None
module_itself n (rows.Module ms) h = refl
module_itself n _ h = absurd cc

never : {A : Type 0} {B : Type 0} → (x : Option A) (y : A) → x ≡ None → x ≡ Some y → B
never x y p q = absurd cc

-- ---- what names lead to is there

module _ (es : List Entry) (m : ℕ) where
  pub found_entry : (name : List ℕ) (scope : Option ℕ) (k : ℕ) → Finds es m name scope k → (e : Entry) × IsEntry es k e
  found_entry name _ _ (entries.here scope k w) = (w.entry, w.there)
  found_entry name _ _ (entries.in_module k none w) = (w.entry, w.there)
  found_entry name _ _ (entries.further j outer k none i f) = found_entry name outer.within k f

  mutual
    led_entry : (j r : ℕ) → Leads es m j r → (e : Entry) × IsEntry es r e
    led_entry _ _ (naming.itself j e i n) = (e, i)
    led_entry _ _ (naming.onward j r e q i n d) = named_entry e.within q r d

    named_entry : (scope : Option ℕ) (q : Qualified) (r : ℕ) → Names es m scope q r → (e : Entry) × IsEntry es r e
    named_entry _ _ _ (naming.simple scope name k r f d) = led_entry k r d
    named_entry _ _ _ (naming.member scope q name o k r d w f) = led_entry k r f
    named_entry _ _ _ (naming.part scope q name o k r d w f) = led_entry k r f

-- ---- a type whose name leads to a module is that of the module

module _ (es : List Entry) (m : ℕ) (once : AreOnce es) (o : ℕ) (outer : Entry) (there : IsEntry es o outer)
    (is : is_module outer.row.means ≡ true) where
  moved : (j : ℕ) (e : Entry) → IsEntry es j e → j ≡ o → e ≡ outer
  moved j e i p = one_entry es o e outer (subst (λ (z : ℕ). IsEntry es z e) p i) there

  -- what is no module leads to it by what it stands for
  named_on : (j : ℕ) (e : Entry) → IsEntry es j e → is_module e.row.means ≡ false → Leads es m j o
      → (q : Qualified) × (row_stands_for e.row ≡ Some q) × Names es m e.within q o
  named_on j e i f l = go (row_stands_for e.row) refl
    where
      go : (x : Option Qualified) → row_stands_for e.row ≡ x → (q : Qualified) × (row_stands_for e.row ≡ Some q) × Names es m e.within q o
      go None h =
          let p = moved j e i (stays es m once j o e i h l) in
          unlike (is_module outer.row.means) is (subst (λ (z : Entry). is_module z.row.means ≡ false) p f)
      go (Some q) h = (q, h, goes_on es m once j o e q i h l)

  mutual
    stands_for_module : (j : ℕ) (u : Ty) → Stands es m j u → Leads es m j o → u ≡ ty.Module (number_of es o outer)
    stands_for_module _ _ (means.adt k e i a) l =
        let n = named_on k e i (adt_alone e.row.means a) l in
        never (row_stands_for e.row) n.0 (adt_itself e.row.name e.row.means a) n.1
    stands_for_module _ _ (means.module_type k e i a) l =
        let p = stays es m once k o e i (module_itself e.row.name e.row.means a) l in
        ap (λ z. ty.Module (number_of es z e)) p ∙ ap (λ z. ty.Module (number_of es o z)) (moved k e i p)
    stands_for_module _ _ (means.by_type k e t u i a w) l =
        let n = named_on k e i (ap is_module a) l in
        means_module e.within t u w n.0 (sym (ap (stands_for e.row.name) a) ∙ n.1) n.2
    stands_for_module _ _ (means.imported k e source j u i a d s) l =
        let n = goes_on es m once k o e (Member (Simple source) e.row.name) i (ap (stands_for e.row.name) a) l in
        let x = by_declared es m e.within (Member (Simple source) e.row.name) o n in
        let p = one_declared es m e.within once (Member (Simple source) e.row.name) x.0 j x.1 d in
        stands_for_module j u s (subst (λ (z : ℕ). Leads es m z o) p x.2)

    means_module : (scope : Option ℕ) (t : tree.Ty) (u : Ty) → Means es m scope t u → (q : Qualified) → named_type t ≡ Some q
        → Names es m scope q o → u ≡ ty.Module (number_of es o outer)
    means_module _ _ _ (means.named scope name k u d s) q h n =
        let e : of_type name ≡ q = cc in
        let x = by_declared es m scope q o n in
        let p = one_declared es m scope once q x.0 k x.1 (subst (λ (z : Qualified). IsDeclared es m scope z k) e d) in
        stands_for_module k u s (subst (λ (z : ℕ). Leads es m z o) p x.2)
    means_module _ _ _ (means.ref_to scope name k u d r) q h n =
        let e : of_type name ≡ q = cc in
        let x = by_declared es m scope q o n in
        let p = one_declared es m scope once q x.0 k x.1 (subst (λ (z : Qualified). IsDeclared es m scope z k) e d) in
        absurd (no_ref k u r (subst (λ (z : ℕ). Leads es m z o) p x.2))
    means_module _ _ _ (means.byte scope) q h n = absurd cc
    means_module _ _ _ (means.int scope) q h n = absurd cc
    means_module _ _ _ (means.big scope) q h n = absurd cc
    means_module _ _ _ (means.chars scope) q h n = absurd cc
    means_module _ _ _ (means.array scope t u w) q h n = absurd cc
    means_module _ _ _ (means.list scope t u w) q h n = absurd cc
    means_module _ _ _ (means.chan scope t u w) q h n = absurd cc
    means_module _ _ _ (means.tuple scope ts us w) q h n = absurd cc

    no_ref : (k : ℕ) (u : Ty) → RefersTo es m k u → Leads es m k o → ⊥
    no_ref _ _ (means.of_adt k n s) l = let p = stands_for_module k (ty.Adt n) s l in cc
    no_ref _ _ (means.of_variant k a v w) l =
        let n = named_on k w.entry w.there (variant_alone w.entry.row.means w.is) l in
        never (row_stands_for w.entry.row) n.0 (variant_itself w.entry.row.name w.entry.row.means w.is) n.1

  variable_has : (j : ℕ) (e : Entry) (u : Ty) → IsEntry es j e → HasType es m e u → Leads es m j o → u ≡ ty.Module (number_of es o outer)
  variable_has j e _ i (outline.written t value u is w) l =
      let n = named_on j e i (ap is_module is) l in
      means_module e.within t u w n.0 (sym (ap (stands_for e.row.name) is) ∙ n.1) n.2
  variable_has j e _ i (outline.inferred expr c is w) l =
      let n = named_on j e i (ap is_module is) l in
      never (row_stands_for e.row) n.0 (ap (stands_for e.row.name) is) n.1

-- ---- imported names

global_origin : (o : Option Meaning) (n : ℕ) → origin_of o ≡ origin.Global n → o ≡ Some (meaning.Global n)
global_origin (Some (meaning.Global i)) n h = let e : i ≡ n = cc in ap (λ z. Some (meaning.Global z)) e
global_origin None n h = absurd cc
global_origin (Some _) n h = absurd cc

module _ (es : List Entry) (m : ℕ) (name : List ℕ) (c : Context) (once : AreOnce es) (k : IsContext es m name c) where
  -- what the declaration of a number means
  meant : (i : ℕ) (e : Entry) → IsEntry es i e → meaning_at k.means i ≡ meaning_of es m i e
  meant i e at = meant_at k.means i (meaning_of es m i e) (k.meant.meanings i e at)

  one_through : (i : ℕ) (e : Entry) (x : Imported) → IsImport es m k.means k.others i e x → IsThrough c.globals x
  one_through i e x h n v from at =
      let y = h.imported in
      let f = found_entry es m h.source e.within y.from y.finds in
      let g = sym (meant y.from f.0 f.1) ∙ global_origin (meaning_at k.means y.from) n (sym y.origin ∙ from) in
      let r = global_of es m y.from n f.0 c.globals k.globals f.1 g in
      let same : r.0 ≡ v = cc in
      let l = found_first es m once e.within (Simple h.source) h.source y.outer y.names refl in
      let lead = subst (λ (z : ℕ). Leads es m z y.outer) (one_found es m once h.source e.within l.0 y.from l.1 y.finds) l.2 in
      let w = led_entry es m y.from y.outer lead in
      let b = sym (meant y.outer w.0 w.1) ∙ module_from (meaning_at k.means y.outer) x.interface y.interface in
      let is = meant_module es m w.0 y.outer x.interface b in
      ap (λ (z : Var). z.ty) (sym same) ∙ variable_has es m once y.outer w.0 w.1 is y.from f.0 r.0.ty f.1 r.2.typed lead
      ∙ ap ty.Module (sym (modules_by es m y.outer x.interface w.0 b))

  pub imports_through : Each (IsThrough c.globals) c.imports
  imports_through =
      listed_each (has_kind es m (place kind.Import)) (IsImport es m k.means k.others) (IsThrough c.globals) one_through
      0 es c.imports k.imports
