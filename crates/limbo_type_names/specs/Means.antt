-- What written types and declarations are as types (Limbo Language Reference, types and declarations).
use Rattle.std.specs.Prelude.{◌≡◌, ℕ, List, Option, Some, true, false, Bool}
use Rattle.limbo_tree.specs.Types as tree
use Rattle.limbo_types.specs.Types.{Ty, Tys, Byte, Int, Big, Chars, ArrayOf, ListOf, ChanOf, Tuple, Adt, RefAdt, RefPick, Module}
use Rattle.limbo_types.specs.Types.{NoTys, MoreTys}
use Rattle.limbo_declarations.specs.Rows as rows
use Rattle.limbo_declarations.specs.Rows.{Declared}
use Rattle.limbo_entries.specs.Entries.{Entry, IsEntry}
use Rattle.limbo_naming.specs.Naming.{is_adt, is_module, is_variant, Lacks}
use Rattle.limbo_naming.specs.Qualified.{Qualified, Simple, Member, of_type}
use Rattle.limbo_naming.specs.Direct.{IsDeclared}
use Rattle.limbo_type_names.specs.Numbers.{number_of}

-- The variant of this number in the adt of this number.
pub record IsVariant (es : List Entry) (k : ℕ) (adt variant : ℕ) : Type 0 where
  pub entry : Entry
  pub there : IsEntry es k entry
  pub is : is_variant entry.row.means ≡ true
  pub place : ℕ
  pub outer : Entry
  pub within : entry.within ≡ Some place
  pub outer_there : IsEntry es place outer
  pub adt_is : adt ≡ number_of es place outer
  pub variant_is : variant ≡ number_of es k entry

mutual
  -- A type that is written in a scope means this type; the implemented module has the number `m`. The name of an adt without `ref` is
  -- the adt as a value, that of a module what a variable of the module holds. A name that is declared by `type` means what is written
  -- there, with a `ref` that stands there. Where names go in a circle, they mean nothing.
  pub data Means (es : List Entry) (m : ℕ) : Option ℕ → tree.Ty → Ty → Type 0 where
    byte : (scope : Option ℕ) → Means es m scope tree.Byte Byte
    int : (scope : Option ℕ) → Means es m scope tree.Int Int
    big : (scope : Option ℕ) → Means es m scope tree.Big Big
    chars : (scope : Option ℕ) → Means es m scope tree.String Chars
    array : (scope : Option ℕ) (t : tree.Ty) (u : Ty) → Means es m scope t u → Means es m scope (tree.ArrayOf t) (ArrayOf u)
    list : (scope : Option ℕ) (t : tree.Ty) (u : Ty) → Means es m scope t u → Means es m scope (tree.ListOf t) (ListOf u)
    chan : (scope : Option ℕ) (t : tree.Ty) (u : Ty) → Means es m scope t u → Means es m scope (tree.ChanOf t) (ChanOf u)
    tuple : (scope : Option ℕ) (ts : tree.Tys) (us : Tys) → AllMean es m scope ts us → Means es m scope (tree.Tuple ts) (Tuple us)
    named : (scope : Option ℕ) (q : tree.Qual) (k : ℕ) (u : Ty) → IsDeclared es m scope (of_type q) k → Stands es m k u
        → Means es m scope (tree.Named q) u
    ref_to : (scope : Option ℕ) (q : tree.Qual) (k : ℕ) (u : Ty) → IsDeclared es m scope (of_type q) k → RefersTo es m k u
        → Means es m scope (tree.RefTo q) u

  pub data AllMean (es : List Entry) (m : ℕ) : Option ℕ → tree.Tys → Tys → Type 0 where
    no_more : (scope : Option ℕ) → AllMean es m scope tree.NoTys NoTys
    and_more : (scope : Option ℕ) (t : tree.Ty) (ts : tree.Tys) (u : Ty) (us : Tys) → Means es m scope t u → AllMean es m scope ts us
        → AllMean es m scope (tree.MoreTys t ts) (MoreTys u us)

  -- The declaration of this number stands for this type.
  pub data Stands (es : List Entry) (m : ℕ) : ℕ → Ty → Type 0 where
    adt : (k : ℕ) (e : Entry) → IsEntry es k e → is_adt e.row.means ≡ true → Stands es m k (Adt (number_of es k e))
    module_type : (k : ℕ) (e : Entry) → IsEntry es k e → is_module e.row.means ≡ true → Stands es m k (Module (number_of es k e))
    by_type : (k : ℕ) (e : Entry) (t : tree.Ty) (u : Ty) → IsEntry es k e → e.row.means ≡ rows.Alias t → Means es m e.within t u
        → Stands es m k u
    imported : (k : ℕ) (e : Entry) (source : List ℕ) (j : ℕ) (u : Ty) → IsEntry es k e → e.row.means ≡ rows.Imported source
        → IsDeclared es m e.within (Member (Simple source) e.row.name) j → Stands es m j u → Stands es m k u

  -- What a `ref` of what this declaration is: of an adt, or of a variant.
  pub data RefersTo (es : List Entry) (m : ℕ) : ℕ → Ty → Type 0 where
    of_adt : (k n : ℕ) → Stands es m k (Adt n) → RefersTo es m k (RefAdt n)
    of_variant : (k a v : ℕ) → IsVariant es k a v → RefersTo es m k (RefPick a v)

-- ---- what is no type

-- An adt, a module, a name by `type` or one that is imported.
abbrev pub is_type : Declared → Bool
is_type (rows.Adt ms pick) = true
is_type (rows.Module ms) = true
is_type (rows.Alias t) = true
is_type (rows.Imported source) = true
is_type _ = false

-- The declaration of this number is one of something else than a type, or imports such a one, or what isn't there.
pub data IsNoType (es : List Entry) (m : ℕ) : ℕ → Type 0 where
  other : (k : ℕ) (e : Entry) → IsEntry es k e → is_type e.row.means ≡ false → IsNoType es m k
  imports_other : (k : ℕ) (e : Entry) (source : List ℕ) (j : ℕ) → IsEntry es k e → e.row.means ≡ rows.Imported source
      → IsDeclared es m e.within (Member (Simple source) e.row.name) j → IsNoType es m j → IsNoType es m k
  imports_nothing : (k : ℕ) (e : Entry) (source : List ℕ) → IsEntry es k e → e.row.means ≡ rows.Imported source
      → ((j : ℕ) → IsDeclared es m e.within (Member (Simple source) e.row.name) j → ⊥) → IsNoType es m k

-- A type that is no adt as a value.
abbrev pub IsNoAdt : Ty → Type 0
IsNoAdt t = (n : ℕ) → t ≡ Adt n → ⊥

-- There is no `ref` of what this declaration is: neither an adt nor a variant.
pub data HasNoRef (es : List Entry) (m : ℕ) (k : ℕ) : Type 0 where
  to_no_type : ((a v : ℕ) → IsVariant es k a v → ⊥) → IsNoType es m k → HasNoRef es m k
  to_no_adt : ((a v : ℕ) → IsVariant es k a v → ⊥) → (t : Ty) → Stands es m k t → IsNoAdt t → HasNoRef es m k

-- A name that is there names no type where it stands alone, or behind `ref` neither an adt nor a variant.
pub data NamesNoType (es : List Entry) (m : ℕ) (scope : Option ℕ) (q : Qualified) : (behind_ref : Bool) → Type 0 where
  nothing : (behind_ref : Bool) → (Lacks es m scope q → ⊥) → ((k : ℕ) → IsDeclared es m scope q k → ⊥)
      → NamesNoType es m scope q behind_ref
  alone : (k : ℕ) → IsDeclared es m scope q k → IsNoType es m k → NamesNoType es m scope q false
  referred : (k : ℕ) → IsDeclared es m scope q k → HasNoRef es m k → NamesNoType es m scope q true
