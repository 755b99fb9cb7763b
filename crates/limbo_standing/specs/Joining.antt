-- The one type of a literal's elements (Limbo Language Reference, expressions).
use Rattle.std.specs.Prelude.{ℕ, List, [], ◌∷◌, Option, None, Some, option_map, ◌==◌, if◌then◌else◌}
use Rattle.limbo_types.specs.Types.{Ty, Nil, RefAdt}
use Rattle.limbo_types.specs.Same.{same}
use Rattle.limbo_typed.specs.Fitting.{Stands}
use Rattle.limbo_typed.specs.Sound.{IsSettled}
use Rattle.limbo_forms.specs.Forms.{choose, is_settled, ref_of}

-- nothing says what they are
abbrev pub AllOpen : List Ty → Type 0
AllOpen [] = Unit {0}
AllOpen (t ∷ ts) = (IsSettled t → ⊥) × AllOpen ts

-- each of them that isn't open stands where this type is asked for
abbrev pub SettledStand : List Ty → Ty → Type 0
SettledStand [] u = Unit {0}
SettledStand (t ∷ ts) u = (IsSettled t → Stands t u) × SettledStand ts u

-- The type of elements of these types: the least for which each stands that isn't open, so the `ref` of an adt for those of different
-- variants, and open where all are.
pub data Joins (ts : List Ty) : Ty → Type 0 where
  open_yet : AllOpen ts → Joins ts Nil
  least : (t : Ty) → (AllOpen ts → ⊥) → SettledStand ts t → ((u : Ty) → SettledStand ts u → Stands t u) → Joins ts t

-- ---- the same, as it is read from the first to the last

-- the adt of which both are a `ref`
abbrev pub common_adt : Ty → Ty → Option ℕ
common_adt t u = choose (ref_of t) None (λ n. choose (ref_of u) None (λ m. if m == n then Some n else None))

-- the type for which two stand, where there is one
abbrev pub join_two : Ty → Ty → Option Ty
join_two t u = if same t u then Some t else option_map RefAdt (common_adt t u)

-- The type so far, none where all were open, and one more: what it is then, or nothing where they have none.
abbrev pub join : Option Ty → Ty → Option (Option Ty)
join None t = if is_settled t then Some (Some t) else Some None
join (Some s) t = if is_settled t then choose (join_two s t) None (λ j. Some (Some j)) else Some (Some s)

abbrev pub or_nil : Option Ty → Ty
or_nil None = Nil
or_nil (Some t) = t

abbrev pub joined : Option Ty → List Ty → Option Ty
joined s [] = Some (or_nil s)
joined s (t ∷ ts) = choose (join s t) None (λ r. joined r ts)
