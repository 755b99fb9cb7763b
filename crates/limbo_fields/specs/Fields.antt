-- Parts of values by their names (Limbo Language Reference, adts and tuples).
use Rattle.std.specs.Prelude.{◌≡◌, ℕ, suc, ◌+◌, ◌==◌, Bool, true, false, not, List, [], ◌∷◌, length, take, Option, None, Some, slice_get}
use Rattle.inf_text.specs.InFront.{is_digit, number_after}
use Rattle.limbo_types.specs.Types.{Ty, Tys, Tuple, Adt, RefAdt, RefPick}
use Rattle.limbo_layout.specs.Adts.{Field, Def, tag, variant_types, listed}

-- The first field of this name among these: its place, and its type.
pub data IsField : List Field → (name : List ℕ) → (place : ℕ) → Ty → Type 0 where
  here : (f : Field) (fs : List Field) (name : List ℕ) → f.name ≡ name → IsField (f ∷ fs) name 0 f.ty
  further : (f : Field) (fs : List Field) (name : List ℕ) (place : ℕ) (t : Ty) → (f.name ≡ name → ⊥) → IsField fs name place t
      → IsField (f ∷ fs) name (suc place) t

abbrev pub LacksField : List Field → (name : List ℕ) → Type 0
LacksField fs name = (place : ℕ) (t : Ty) → IsField fs name place t → ⊥

-- How many parts stand in a value before the common fields, and before the fields of a variant: the tag of a pick adt, the common
-- fields, and the fields of the variants before it.
abbrev pub before_common : Def → ℕ
before_common d = length (tag d.picks)

abbrev pub before_own : Def → ℕ → ℕ
before_own d v = before_common d + length d.fields + length (variant_types (take v d.picks))

-- The fields that a value has of its own where its variant is known.
abbrev pub own_fields : Def → Option ℕ → List Field
own_fields d None = []
own_fields d (Some v) = elim (slice_get d.picks v) [ None ↦ [] | Some w ↦ w.fields ]

abbrev pub before_variant : Def → Option ℕ → ℕ
before_variant d None = 0
before_variant d (Some v) = before_own d v

-- Which part of an adt's value a name is, and of which type: the fields of its variant count first, and then those of all.
pub data IsPart (d : Def) (variant : Option ℕ) (name : List ℕ) : (part : ℕ) → Ty → Type 0 where
  own : (place : ℕ) (t : Ty) → IsField (own_fields d variant) name place t → IsPart d variant name (before_variant d variant + place) t
  common : (place : ℕ) (t : Ty) → LacksField (own_fields d variant) name → IsField d.fields name place t
      → IsPart d variant name (before_common d + place) t

abbrev pub AllDigits : List ℕ → Type 0
AllDigits [] = Unit {0}
AllDigits (c ∷ cs) = (is_digit c ≡ true) × AllDigits cs

-- No zero stands in front of other digits.
abbrev pub is_plain : List ℕ → Bool
is_plain [] = false
is_plain (c ∷ []) = true
is_plain (c ∷ d ∷ cs) = not (c == 48)

-- The name of a tuple's part: `t`, and the decimal digits of its number, from 0 on.
pub record IsPlaceName (name : List ℕ) (number : ℕ) : Type 0 where
  pub digits : List ℕ
  pub spelled : name ≡ 116 ∷ digits
  pub plain : is_plain digits ≡ true
  pub all : AllDigits digits
  pub value : number ≡ number_after 0 digits

-- Which part of a value a name is behind `.`, and of which type: of an adt's value, or what a `ref` of the adt or of a variant of it
-- names; of a tuple.
pub data Names (defs : List Def) (name : List ℕ) : Ty → (part : ℕ) → Ty → Type 0 where
  of_adt : (n : ℕ) (d : Def) (part : ℕ) (t : Ty) → slice_get defs n ≡ Some d → IsPart d None name part t → Names defs name (Adt n) part t
  of_ref : (n : ℕ) (d : Def) (part : ℕ) (t : Ty) → slice_get defs n ≡ Some d → IsPart d None name part t
      → Names defs name (RefAdt n) part t
  of_variant : (n v : ℕ) (d : Def) (part : ℕ) (t : Ty) → slice_get defs n ≡ Some d → IsPart d (Some v) name part t
      → Names defs name (RefPick n v) part t
  of_tuple : (ts : Tys) (part : ℕ) (t : Ty) → IsPlaceName name part → slice_get (listed ts) part ≡ Some t
      → Names defs name (Tuple ts) part t
