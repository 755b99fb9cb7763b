-- Members of modules, and parts of adts and variants.
use Rattle.std.proofs.Common.{◌≡◌, ◌<◌, ℕ, length, get_or, List, Option, None, Some, Bool, true, false, refl, sym, ap, subst, ◌∙◌}
use Rattle.std.specs.Option.{IfSome, IfNone}
use Rattle.limbo_declarations.specs.View.{view_declared}
use Rattle.limbo_declarations.specs.Rows as rows
use Rattle.limbo_declarations.specs.Rows.{Declared}
use Rattle.limbo_entries.specs.declared.entry.Entry as code_entry
use Rattle.limbo_entries.specs.View.{view_entry, entries_of}
use Rattle.limbo_entries.specs.Entries.{Entry, IsEntry, IsMember, HasNone}
use Rattle.limbo_naming.specs.Naming.{is_module, is_adt, is_variant, is_variable, has_parts, IsMemberOf, IsPartOf, of_adt, of_variant, of_its_adt}
use Rattle.limbo_naming.proofs.Places.{one_entry, entry_at}

unlike : {A : Type 0} → (b : Bool) → b ≡ true → b ≡ false → A
unlike b x y = absurd (let z : true ≡ false = sym x ∙ y in cc)

-- what is known of an entry is known of the code's
pub seen_so : (es : List code_entry.Entry) (k : ℕ) (x : code_entry.Entry) (e : Entry) (b : Bool) → k < length es → x ≡ get_or es k x
    → IsEntry (entries_of es) k e → b ≡ is_variable (view_declared x.row.declared) → is_variable e.row.means ≡ b
seen_so es k x e b l f i s =
    ap (λ (z : Entry). is_variable z.row.means) (one_entry (entries_of es) k e (view_entry x) i (entry_at es k x l f)) ∙ sym s

pub variable_hidden : (es : List code_entry.Entry) (k : ℕ) (x : code_entry.Entry) → k < length es → x ≡ get_or es k x → (e : Entry)
    → IsEntry (entries_of es) k e → true ≡ is_variable (view_declared x.row.declared) → is_variable e.row.means ≡ false → ⊥
variable_hidden es k x l f e i s h = unlike (is_variable e.row.means) (seen_so es k x e true l f i s) h

pub no_parts_known : (d : Declared) → has_parts d ≡ false → (is_adt d ≡ false) × (is_variant d ≡ false)
no_parts_known (rows.Adt ms pick) x = absurd (let z : true ≡ false = x in cc)
no_parts_known (rows.Case fs) x = absurd (let z : true ≡ false = x in cc)
no_parts_known _ x = (refl, refl)

-- an adt is no variant
pub adt_alone : (d : Declared) → is_adt d ≡ true → is_variant d ≡ false
adt_alone (rows.Adt ms pick) x = refl
adt_alone (rows.Case fs) x = absurd (let z : false ≡ true = x in cc)
adt_alone _ x = refl

module _ (es : List Entry) (o : ℕ) (outer : Entry) (there : IsEntry es o outer) (name : List ℕ) where
  pub no_module : is_module outer.row.means ≡ false → (k : ℕ) → IsMemberOf es o name k → ⊥
  no_module f k m =
      unlike (is_module outer.row.means) (subst (λ (e : Entry). is_module e.row.means ≡ true) (one_entry es o m.outer outer m.there there) m.of_module) f

  pub no_parts : is_adt outer.row.means ≡ false → is_variant outer.row.means ≡ false → (k : ℕ) → IsPartOf es o name k → ⊥
  no_parts f g k (of_adt e i x m) = unlike (is_adt outer.row.means) (subst (λ (e : Entry). is_adt e.row.means ≡ true) (one_entry es o e outer i there) x) f
  no_parts f g k (of_variant e i x m) =
      unlike (is_variant outer.row.means) (subst (λ (e : Entry). is_variant e.row.means ≡ true) (one_entry es o e outer i there) x) g
  no_parts f g k (of_its_adt e i x n m) =
      unlike (is_variant outer.row.means) (subst (λ (e : Entry). is_variant e.row.means ≡ true) (one_entry es o e outer i there) x) g

  pub adt_found : (r : Option ℕ) → is_adt outer.row.means ≡ true → IfSome r (λ k. IsMember es (Some o) name k) → IfSome r (λ k. IsPartOf es o name k)
  adt_found None x f = tt
  adt_found (Some k) x f = of_adt outer there x f

  no_member : HasNone es (Some o) name → is_variant outer.row.means ≡ false → (k : ℕ) → IsPartOf es o name k → ⊥
  no_member n g k (of_adt e i x m) = n k m
  no_member n g k (of_variant e i x m) = n k m
  no_member n g k (of_its_adt e i x w m) =
      unlike (is_variant outer.row.means) (subst (λ (e : Entry). is_variant e.row.means ≡ true) (one_entry es o e outer i there) x) g

  pub adt_absent : (r : Option ℕ) → is_variant outer.row.means ≡ false → IfNone r (HasNone es (Some o) name) → IfNone r ((k : ℕ) → IsPartOf es o name k → ⊥)
  adt_absent None g f = no_member f g
  adt_absent (Some k) g f = tt

  pub variant_found : (r : Option ℕ) → is_variant outer.row.means ≡ true → HasNone es (Some o) name → IfSome r (λ k. IsMember es outer.within name k)
      → IfSome r (λ k. IsPartOf es o name k)
  variant_found None x n f = tt
  variant_found (Some k) x n f = of_its_adt outer there x n f

  none_at_all : HasNone es (Some o) name → HasNone es outer.within name → (k : ℕ) → IsPartOf es o name k → ⊥
  none_at_all n w k (of_adt e i x m) = n k m
  none_at_all n w k (of_variant e i x m) = n k m
  none_at_all n w k (of_its_adt e i x v m) = w k (subst (λ (e : Entry). IsMember es e.within name k) (one_entry es o e outer i there) m)

  pub variant_absent : (r : Option ℕ) → HasNone es (Some o) name → IfNone r (HasNone es outer.within name) → IfNone r ((k : ℕ) → IsPartOf es o name k → ⊥)
  variant_absent None n f = none_at_all n f
  variant_absent (Some k) n f = tt

pub not_so : (b : Bool) → b ≡ true → b ≡ false → ⊥
not_so b x y = unlike b x y

pub no_part_past : (es : List Entry) (o : ℕ) (name : List ℕ) → ((e : Entry) → IsEntry es o e → ⊥) → (k : ℕ) → IsPartOf es o name k → ⊥
no_part_past es o name w k (of_adt e i x m) = w e i
no_part_past es o name w k (of_variant e i x m) = w e i
no_part_past es o name w k (of_its_adt e i x n m) = w e i
