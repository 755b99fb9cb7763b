-- The numbers of a source's context lead to something there.
use Rattle.std.proofs.Common.{◌≡◌, ◌<◌, inl, inr, [], ℕ, List, Option, None, Some, length, slice_get, refl, sym, ap, subst, ◌∙◌}
use Rattle.std.proofs.lemmas.Option.{slice_get_within}
use Rattle.limbo_declarations.specs.Rows.{Row}
use Rattle.limbo_entries.specs.Entries.{Entry, IsEntry, IsTable}
use Rattle.limbo_scope.specs.declared.meaning.Meaning.{Meaning}
use Rattle.limbo_scope.specs.declared.meaning.Meaning.TheVariants as meaning
use Rattle.limbo_scope.specs.Scopes.{Scope, seen}
use Rattle.limbo_typed.specs.Sound.{Each}
use Rattle.limbo_stated_sound.proofs.limbo_typed_sound_lemmas.Lists.{each_at}
use Rattle.limbo_context.specs.Context.{Context}
use Rattle.limbo_context.specs.declared.context.Imported.{Imported}
use Rattle.limbo_context.specs.declared.context.Origin.TheVariants as origin
use Rattle.limbo_meanings.specs.declared.kind.Kind.TheVariants as kind
use Rattle.limbo_meanings.specs.Kinds.{place, has_kind}
use Rattle.limbo_meanings.specs.Meanings.{meaning_of, AreMeanings}
use Rattle.limbo_meanings.specs.Names.{names_in, scope_inside, outermost_scopes}
use Rattle.limbo_meanings.proofs.Finding.{IsAmong, answer}
use Rattle.limbo_meanings.proofs.Inside.{names_from}
use Rattle.limbo_exports.specs.System.{is_system, is_fd, module_in, adt_in, module_number, adt_number}
use Rattle.limbo_outline.specs.Outline.{owner_in, owner_of, IsFunction}
use Rattle.limbo_outline.proofs.Numbers.{adts_by, exception_of}
use Rattle.limbo_outline_members.proofs.Numbers.{interface_of}
use Rattle.limbo_imports.specs.Imports.{origin_of, meaning_at, IsImport}
use Rattle.limbo_imports.proofs.Importing.{import_of}
use Rattle.limbo_source_context.specs.SourceContext.{IsContext, IsFound, AreOutermost}
use Rattle.limbo_stated_sound.specs.Named.{OwnerIn}
use Rattle.limbo_stated_sound.specs.Standing.{IsOutside}
use Rattle.limbo_source_sound.proofs.Alike.{meant_adt}
use Rattle.limbo_source_sound.proofs.Listing.{listed_each}
use Rattle.limbo_source_sound.proofs.There.{adt_there}

same_some : {A : Type 0} (o : Option A) (x y : A) → o ≡ Some x → o ≡ Some y → x ≡ y
same_some o x y p q = cc

adt_from : (o : Option Meaning) (n : ℕ) → owner_in o ≡ Some n → o ≡ Some (meaning.Adt n)
adt_from (Some (meaning.Adt i)) n h = let e : i ≡ n = cc in ap (λ z. Some (meaning.Adt z)) e
adt_from None n h = absurd cc
adt_from (Some _) n h = absurd cc

adt_number_from : (o : Option Meaning) (n : ℕ) → adt_in o ≡ Some n → o ≡ Some (meaning.Adt n)
adt_number_from (Some (meaning.Adt i)) n h = let e : i ≡ n = cc in ap (λ z. Some (meaning.Adt z)) e
adt_number_from None n h = absurd cc
adt_number_from (Some _) n h = absurd cc

pub module_from : (o : Option Meaning) (n : ℕ) → module_in o ≡ Some n → o ≡ Some (meaning.Module n)
module_from (Some (meaning.Module i)) n h = let e : i ≡ n = cc in ap (λ z. Some (meaning.Module z)) e
module_from None n h = absurd cc
module_from (Some _) n h = absurd cc

module _ (top : List Row) (es : List Entry) (m : ℕ) (name : List ℕ) (c : Context) (table : IsTable top es) (k : IsContext es m name c) where
  -- a declaration that means an adt has its number
  adt_within : (a n : ℕ) (e : Entry) → IsEntry es a e → meaning_of es m a e ≡ Some (meaning.Adt n) → n < length c.adts
  adt_within a n e i h =
      let y = adt_there top es m table c.adts k.adts a e i (meant_adt es m e a n h) in
      slice_get_within c.adts n y.0 (ap (λ z. slice_get c.adts z) (adts_by es m a n e h) ∙ y.1)

  owner_within : (within : Option ℕ) (n : ℕ) → owner_of es m within ≡ Some n → n < length c.adts
  owner_within None n h = absurd cc
  owner_within (Some a) n h = go (slice_get es a) refl h
    where
      go : (o : Option Entry) → slice_get es a ≡ o → elim o [ None ↦ None | Some e ↦ owner_in (meaning_of es m a e) ] ≡ Some n
          → n < length c.adts
      go None f g = absurd cc
      go (Some e) f g = adt_within a n e f (adt_from (meaning_of es m a e) n g)

  owner_there : (o within : Option ℕ) → o ≡ owner_of es m within → OwnerIn c o
  owner_there None within h = tt
  owner_there (Some n) within h = owner_within within n (sym h)

  pub owners_there : Each (λ f. OwnerIn c f.owner) c.functions
  owners_there =
      listed_each (has_kind es m (place kind.Function)) (IsFunction es m) (λ f. OwnerIn c f.owner)
      (λ i e f h. owner_there f.owner e.within h.owner)
      0 es c.functions k.functions

  -- ---- the system's module and its adt

  fd_from : (o : Option ℕ) (n : ℕ) → IsFound (is_fd k.system) es o → adt_number k.means o ≡ Some n → n < length c.adts
  fd_from None n f h = absurd cc
  fd_from (Some i) n f h =
      let p = k.meant.meanings i f.entry f.there in
      adt_within i n f.entry f.there
      (adt_number_from (meaning_of es m i f.entry) n (sym (ap (λ z. elim z [ None ↦ None | Some x ↦ adt_in x ]) p) ∙ h))

  pub fd_there : (n : ℕ) → c.fd ≡ Some n → n < length c.adts
  fd_there n h = fd_from k.fd n k.meant.fd_is (sym k.is_fd ∙ h)

module _ (es : List Entry) (m : ℕ) (name : List ℕ) (c : Context) (k : IsContext es m name c) where
  system_from : (o : Option ℕ) (n : ℕ) → IsFound is_system es o → module_number k.means o ≡ Some n → n < length c.interfaces
  system_from None n f h = absurd cc
  system_from (Some i) n f h =
      let p = k.meant.meanings i f.entry f.there in
      let q = module_from (meaning_of es m i f.entry) n (sym (ap (λ z. elim z [ None ↦ None | Some x ↦ module_in x ]) p) ∙ h) in
      let y = interface_of es m i n k.system f.entry c.interfaces k.interfaces f.there q in
      slice_get_within c.interfaces n y.0 y.1

  pub system_there : (n : ℕ) → c.system ≡ Some n → n < length c.interfaces
  system_there n h = system_from k.system n k.meant.system_is (sym k.is_system ∙ h)

-- ---- names around functions

-- A name that is seen there comes from a declaration that means it.
module _ (es : List Entry) (m : ℕ) (xs : List (Option Meaning)) (are : AreMeanings es m xs) (called : List ℕ) (x : Meaning) where
  among : (scope : Option ℕ) → IsAmong (names_in scope xs es) called x
      → (k : ℕ) × (e : Entry) × IsEntry es k e × (meaning_of es m k e ≡ Some x)
  among scope a =
      let r = names_from scope xs es called x a.place a.there in
      (r.0, r.1, r.2, same_some (slice_get xs r.0) (meaning_of es m r.0 r.1) (Some x) (are r.0 r.1 r.2) r.5)

  inside : seen called (scope_inside m xs es) ≡ Some x → (k : ℕ) × (e : Entry) × IsEntry es k e × (meaning_of es m k e ≡ Some x)
  inside h = elim (answer called (names_in (Some m) xs es) []) [
    | inl t ↦ let p : None ≡ Some x = sym t.1 ∙ h in absurd cc
    | inr t ↦ let p = same_some (Some t.0) t.0 x refl (sym t.2 ∙ h) in
        among (Some m) (subst (λ (z : Meaning). IsAmong (names_in (Some m) xs es) called z) p t.1)
  ]

  pub seen_from : seen called (outermost_scopes m xs es) ≡ Some x → (k : ℕ) × (e : Entry) × IsEntry es k e × (meaning_of es m k e ≡ Some x)
  seen_from h = elim (answer called (names_in None xs es) (scope_inside m xs es)) [
    | inl t ↦ inside (sym t.1 ∙ h)
    | inr t ↦ let p = same_some (Some t.0) t.0 x refl (sym t.2 ∙ h) in
        among None (subst (λ (z : Meaning). IsAmong (names_in None xs es) called z) p t.1)
  ]

not_local : (o : Option Meaning) (x : ℕ) → origin_of o ≡ origin.Local x → ⊥
not_local (Some (meaning.Global n)) x h = absurd cc
not_local None x h = absurd cc
not_local (Some _) x h = absurd cc

module _ (es : List Entry) (m : ℕ) (name : List ℕ) (c : Context) (k : IsContext es m name c) (scopes : List Scope)
    (out : AreOutermost es m scopes) where
  from_scopes : (called : List ℕ) (x : Meaning) → seen called scopes ≡ Some x
      → (i : ℕ) × (e : Entry) × IsEntry es i e × (meaning_of es m i e ≡ Some x)
  from_scopes called x h = seen_from es m out.0 out.1 called x (sym (ap (λ z. seen called z) out.2) ∙ h)

  never_local : Each (λ i. (x : ℕ) → i.origin ≡ origin.Local x → ⊥) c.imports
  never_local =
      listed_each (has_kind es m (place kind.Import)) (IsImport es m k.means k.others) (λ i. (x : ℕ) → i.origin ≡ origin.Local x → ⊥)
      (λ j e i h x p. not_local (meaning_at k.means h.imported.from) x (sym h.imported.origin ∙ p)) 0 es c.imports k.imports

  pub is_outside : IsOutside c scopes
  is_outside = record {
    known = λ called n h.
        let r = from_scopes called (meaning.Import n) h in
        let y = import_of es m r.0 n r.1 k.means k.others c.imports k.imports r.2 r.3 in
        slice_get_within c.imports n y.0 y.1;
    imported = λ called n x i h t p. each_at (λ (z : Imported). (x : ℕ) → z.origin ≡ origin.Local x → ⊥) c.imports n i t never_local x p;
    raises = λ called n h.
        let r = from_scopes called (meaning.Exception n) h in
        let y = exception_of es m r.0 n r.1 name c.exceptions k.exceptions r.2 r.3 in
        slice_get_within c.exceptions n y.0 y.1;
  }
