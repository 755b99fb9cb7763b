-- What one type reaches, read from the adts and the lists that say what each may come to hold.
use Rattle.std.specs.Prelude.{ℕ, Bool, true, false, ◌==◌, ◌&&◌, ◌||◌, List, [], ◌∷◌, Option, Some, None, slice_get}
use Rattle.limbo_types.specs.Types.{Ty, Tys, ArrayOf, ListOf, ChanOf, Tuple, Adt, RefAdt, RefPick, NoTys, MoreTys}
use Rattle.limbo_types.specs.Same.{same}
use Rattle.limbo_layout.specs.Adts.{Def, field_types}
use Rattle.limbo_adts.specs.Closed.{row_of}

-- whether it is a ref of an adt, or of a variant of it
abbrev pub is_ref : Ty → ℕ → Bool
is_ref (RefAdt m) n = n == m
is_ref (RefPick m v) n = n == m
is_ref t n = false

-- whether two types are one, a ref of a variant counted as the ref of its adt
abbrev mutual
  pub alike : Ty → Ty → Bool
  alike (ArrayOf t) (ArrayOf u) = alike t u
  alike (ListOf t) (ListOf u) = alike t u
  alike (ChanOf t) (ChanOf u) = alike t u
  alike (Tuple ts) (Tuple us) = all_alike ts us
  alike (RefAdt n) u = is_ref u n
  alike (RefPick n v) u = is_ref u n
  alike t u = same t u

  pub all_alike : Tys → Tys → Bool
  all_alike NoTys NoTys = true
  all_alike (MoreTys t ts) (MoreTys u us) = alike t u && all_alike ts us
  all_alike _ _ = false

-- whether a type is another or has it as a part, not through adts
abbrev mutual
  pub touches : Ty → Ty → Bool
  touches (ArrayOf t) u = alike (ArrayOf t) u || touches t u
  touches (ListOf t) u = alike (ListOf t) u || touches t u
  touches (ChanOf t) u = alike (ChanOf t) u || touches t u
  touches (Tuple ts) u = alike (Tuple ts) u || any_touches ts u
  touches t u = alike t u

  pub any_touches : Tys → Ty → Bool
  any_touches NoTys u = false
  any_touches (MoreTys t ts) u = touches t u || any_touches ts u

abbrev pub any_touch : List Ty → Ty → Bool
any_touch [] u = false
any_touch (t ∷ ts) u = touches t u || any_touch ts u

abbrev pub types_there : Option Def → List Ty
types_there None = []
types_there (Some d) = field_types d

-- the types of an adt's fields
abbrev pub fields_at : List Def → ℕ → List Ty
fields_at defs n = types_there (slice_get defs n)

-- whether a field of one of these adts touches a type
abbrev pub row_touches : List Def → List ℕ → Ty → Bool
row_touches defs [] u = false
row_touches defs (k ∷ ks) u = any_touch (fields_at defs k) u || row_touches defs ks u

-- whether a test holds of an adt that the type names
abbrev mutual
  pub through : (ℕ → Bool) → Ty → Bool
  through f (ArrayOf t) = through f t
  through f (ListOf t) = through f t
  through f (ChanOf t) = through f t
  through f (Tuple ts) = any_through f ts
  through f (Adt n) = f n
  through f (RefAdt n) = f n
  through f (RefPick n v) = f n
  through f t = false

  pub any_through : (ℕ → Bool) → Tys → Bool
  any_through f NoTys = false
  any_through f (MoreTys t ts) = through f t || any_through f ts

abbrev pub reach : List Def → List (List ℕ) → Ty → Ty → Bool
reach defs closed t u = touches t u || through (λ n. row_touches defs (row_of closed n) u) t
