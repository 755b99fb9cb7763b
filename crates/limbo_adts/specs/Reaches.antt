-- What a type reaches, and so what a value of it may come to hold.
use Rattle.std.specs.Prelude.{◌≡◌, ℕ, List, Some, slice_get}
use Rattle.limbo_types.specs.Types.{Ty, Tys, ArrayOf, ListOf, ChanOf, Tuple, Adt, RefAdt, RefPick, NoTys, MoreTys}
use Rattle.limbo_layout.specs.Adts.{Def, Has, field_types, listed}

-- a ref of a variant counts as the ref of its adt
abbrev mutual
  pub plain : Ty → Ty
  plain (ArrayOf t) = ArrayOf (plain t)
  plain (ListOf t) = ListOf (plain t)
  plain (ChanOf t) = ChanOf (plain t)
  plain (Tuple ts) = Tuple (all_plain ts)
  plain (RefPick n v) = RefAdt n
  plain t = t

  pub all_plain : Tys → Tys
  all_plain NoTys = NoTys
  all_plain (MoreTys t ts) = MoreTys (plain t) (all_plain ts)

-- Adt n has a field of this type, in whichever variant.
pub record HasField (defs : List Def) (n : ℕ) (t : Ty) : Type 0 where
  pub def : Def
  pub there : slice_get defs n ≡ Some def
  pub has : Has (field_types def) t

-- The parts of a type: what an array, a list or a channel is of, a tuple's parts, and the fields of an adt, also behind a ref.
pub data Part (defs : List Def) : Ty → Ty → Type 0 where
  of_array : (t : Ty) → Part defs (ArrayOf t) t
  of_list : (t : Ty) → Part defs (ListOf t) t
  of_chan : (t : Ty) → Part defs (ChanOf t) t
  of_tuple : (ts : Tys) (t : Ty) → Has (listed ts) t → Part defs (Tuple ts) t
  of_adt : (n : ℕ) (t : Ty) → HasField defs n t → Part defs (Adt n) t
  of_ref : (n : ℕ) (t : Ty) → HasField defs n t → Part defs (RefAdt n) t
  of_variant : (n v : ℕ) (t : Ty) → HasField defs n t → Part defs (RefPick n v) t

-- The least relation in which a type reaches itself, and all that its parts reach.
pub data Reaches (defs : List Def) : Ty → Ty → Type 0 where
  reaches_itself : (t u : Ty) → plain t ≡ plain u → Reaches defs t u
  reaches_through : (t p u : Ty) → Part defs t p → Reaches defs p u → Reaches defs t u
