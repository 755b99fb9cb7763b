-- The adts that a source declares (Limbo Language Reference, adts).
use Rattle.std.specs.Prelude.{◌≡◌, ℕ, suc, List, [], ◌∷◌, Option, Some, true, false, take, slice_get}
use Rattle.limbo_tree.specs.Types as tree
use Rattle.limbo_tree.specs.Exprs.{Expr}
use Rattle.limbo_declarations.specs.Rows as rows
use Rattle.limbo_entries.specs.Entries.{Entry, IsEntry}
use Rattle.limbo_naming.specs.Naming.{is_adt, is_variant, is_variable}
use Rattle.limbo_layout.specs.Adts.{Field, Variant, Def}
use Rattle.limbo_headers.specs.limbo_type_names.Means.{Means}
use Rattle.limbo_headers.specs.declared.header.Heading.{Heading}
use Rattle.limbo_headers.specs.Headers.{Heads}
use Rattle.limbo_source_adts.specs.Inside.{numbers_inside}

-- The fields among these declarations, in order: the variables, each with its name and the type that its type means where it stands.
pub data FieldsAre (es : List Entry) (m : ℕ) : List ℕ → List Field → Type 0 where
  no_fields : FieldsAre es m [] []
  a_field : (k : ℕ) (e : Entry) (t : tree.Ty) (value : Option Expr) (f : Field) (ks : List ℕ) (fs : List Field) → IsEntry es k e
      → e.row.means ≡ rows.Variable t value → f.name ≡ e.row.name → Means es m e.within t f.ty → FieldsAre es m ks fs
      → FieldsAre es m (k ∷ ks) (f ∷ fs)
  no_field : (k : ℕ) (e : Entry) (ks : List ℕ) (fs : List Field) → IsEntry es k e → is_variable e.row.means ≡ false → FieldsAre es m ks fs
      → FieldsAre es m (k ∷ ks) fs

-- The variants among these declarations, in order, each with its own fields.
pub data VariantsAre (es : List Entry) (m : ℕ) : List ℕ → List Variant → Type 0 where
  no_variants : VariantsAre es m [] []
  a_variant : (k : ℕ) (e : Entry) (v : Variant) (ks : List ℕ) (vs : List Variant) → IsEntry es k e → is_variant e.row.means ≡ true
      → v.name ≡ e.row.name → FieldsAre es m (numbers_inside es k) v.fields → VariantsAre es m ks vs → VariantsAre es m (k ∷ ks) (v ∷ vs)
  no_variant : (k : ℕ) (e : Entry) (ks : List ℕ) (vs : List Variant) → IsEntry es k e → is_variant e.row.means ≡ false
      → VariantsAre es m ks vs → VariantsAre es m (k ∷ ks) vs

-- The adt of this number: its name, its fields and its variants.
pub record IsAdt (es : List Entry) (m : ℕ) (k : ℕ) (d : Def) : Type 0 where
  pub entry : Entry
  pub there : IsEntry es k entry
  pub is : is_adt entry.row.means ≡ true
  pub named : d.name ≡ entry.row.name
  pub fields : FieldsAre es m (numbers_inside es k) d.fields
  pub variants : VariantsAre es m (numbers_inside es k) d.picks

-- The adts among the declarations from number k on, in order: an adt's place is the number by which types name it.
pub data AdtsAre (es : List Entry) (m : ℕ) : (k : ℕ) → List Entry → List Def → Type 0 where
  no_adts : (k : ℕ) → AdtsAre es m k [] []
  an_adt : (k : ℕ) (e : Entry) (d : Def) (more : List Entry) (ds : List Def) → is_adt e.row.means ≡ true → IsAdt es m k d
      → AdtsAre es m (suc k) more ds → AdtsAre es m k (e ∷ more) (d ∷ ds)
  no_adt : (k : ℕ) (e : Entry) (more : List Entry) (ds : List Def) → is_adt e.row.means ≡ false → AdtsAre es m (suc k) more ds
      → AdtsAre es m k (e ∷ more) ds

-- the adts among the first declarations, so many of them
abbrev pub AdtsTo : List Entry → (m : ℕ) → (n : ℕ) → List Def → Type 0
AdtsTo es m n ds = AdtsAre es m 0 (take n es) ds

-- what is told of declarations is told of each
abbrev pub AreHeaded : List Entry → (m : ℕ) → List Heading → Type 0
AreHeaded es m headings = (k : ℕ) (e : Entry) (h : Heading) → IsEntry es k e → slice_get headings k ≡ Some h → Heads es m e h
