-- Adts as definitions speak of them (Limbo Language Reference, adts).
use Rattle.std.specs.Prelude.{◌≡◌, ℕ, ◌<◌, ◌⊎◌, List, [], ◌∷◌, ◌++◌, length, Some, slice_get}
use Rattle.limbo_types.specs.Types.{Ty, Tys, Int, ArrayOf, ListOf, ChanOf, Tuple, Adt, RefAdt, RefPick, Module, NoTys, MoreTys}

pub record Field : Type 0 where
  pub name : List ℕ
  pub ty : Ty

-- A variant of a pick adt, with its own fields.
pub record Variant : Type 0 where
  pub name : List ℕ
  pub fields : List Field

-- An adt: its common fields, and its variants, where it is a pick adt.
pub record Def : Type 0 where
  pub name : List ℕ
  pub fields : List Field
  pub picks : List Variant

abbrev pub types_of : List Field → List Ty
types_of [] = []
types_of (f ∷ fs) = f.ty ∷ types_of fs

-- the types of all variants' fields, one variant after the other
abbrev pub variant_types : List Variant → List Ty
variant_types [] = []
variant_types (v ∷ vs) = types_of v.fields ++ variant_types vs

-- the types of all fields, the common ones first
abbrev pub field_types : Def → List Ty
field_types d = types_of d.fields ++ variant_types d.picks

-- the tag of a pick adt is an int
abbrev pub tag : List Variant → List Ty
tag [] = []
tag (v ∷ vs) = Int ∷ []

-- what a value of the adt is made of, in order
abbrev pub parts : Def → List Ty
parts d = tag d.picks ++ field_types d

abbrev pub listed : Tys → List Ty
listed NoTys = []
listed (MoreTys t ts) = t ∷ listed ts

-- something is in a list
abbrev pub Has : {A : Type 0} → List A → A → Type 0
Has [] x = ⊥
Has (y ∷ ys) x = (y ≡ x) ⊎ Has ys x

-- the adts that a value of the type holds as values, itself or in tuples
abbrev mutual
  pub held : Ty → List ℕ
  held (Tuple ts) = all_held ts
  held (Adt n) = n ∷ []
  held t = []

  pub all_held : Tys → List ℕ
  all_held NoTys = []
  all_held (MoreTys t ts) = held t ++ all_held ts

abbrev pub held_in : List Ty → List ℕ
held_in [] = []
held_in (t ∷ ts) = held t ++ held_in ts

-- the variants of adt n, where there is such an adt
pub record HasVariant (defs : List Def) (n v : ℕ) : Type 0 where
  pub def : Def
  pub there : slice_get defs n ≡ Some def
  pub variant : v < length def.picks

-- Each number in the type names an adt, a variant of it, or one of so many modules.
abbrev mutual
  pub Names : List Def → (modules : ℕ) → Ty → Type 0
  Names defs modules (ArrayOf t) = Names defs modules t
  Names defs modules (ListOf t) = Names defs modules t
  Names defs modules (ChanOf t) = Names defs modules t
  Names defs modules (Tuple ts) = AllName defs modules ts
  Names defs modules (Adt n) = n < length defs
  Names defs modules (RefAdt n) = n < length defs
  Names defs modules (RefPick n v) = HasVariant defs n v
  Names defs modules (Module n) = n < modules
  Names defs modules t = Unit {0}

  pub AllName : List Def → (modules : ℕ) → Tys → Type 0
  AllName defs modules NoTys = Unit {0}
  AllName defs modules (MoreTys t ts) = Names defs modules t × AllName defs modules ts

-- Each number in an adt's fields names something there.
abbrev pub AreNamed : List Def → (modules : ℕ) → Type 0
AreNamed defs modules = (n : ℕ) (d : Def) (t : Ty) → slice_get defs n ≡ Some d → Has (field_types d) t → Names defs modules t
