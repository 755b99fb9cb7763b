-- Which types operations take and give (Limbo Language Reference, expressions), and which values stand where a type is asked for.
use Rattle.std.specs.Prelude.{ℕ, ℤ, ◌≡◌, ◌⊎◌, Bool, true, false, List, [], ◌∷◌, ◌++◌, Option, Some, None, slice_get}
use Rattle.limbo_values.specs.declared.number.Kind.{Kind}
use Rattle.limbo_values.specs.declared.number.Kind.TheVariants as kind
use Rattle.limbo_values.specs.Numbers.{InRange}
use Rattle.limbo_types.specs.Types.{Ty, Tys, Byte, Int, Big, Chars, ArrayOf, ListOf, ChanOf, Tuple, Adt, RefAdt, RefPick, Module}
use Rattle.limbo_types.specs.Types.{NoTys, MoreTys}
use Rattle.limbo_adts.specs.limbo_layout.Adts.{Def, Variant, types_of, parts, listed}
use Rattle.limbo_typed.specs.declared.operation.Sequence.{Sequence}
use Rattle.limbo_typed.specs.declared.operation.Sequence.TheVariants as sequence
use Rattle.limbo_typed.specs.declared.operation.Operation.{Operation}
use Rattle.limbo_typed.specs.declared.operation.Operation.TheVariants.{Arithmetic, Shift, Alter, Compare, CompareChars, Identical}
use Rattle.limbo_typed.specs.declared.operation.Operation.TheVariants.{Distinct, Not, Convert, ReadNumber, NumberText, BytesText}
use Rattle.limbo_typed.specs.declared.operation.Operation.TheVariants.{TextBytes, Join, Cons, Head, Tail, Length, Tag, Ref, Slice}
use Rattle.limbo_typed.specs.declared.operation.Operation.TheVariants.{NewArray, Character}
use Rattle.limbo_typed.specs.declared.operation.Operation.TheVariants as op
use Rattle.limbo_typed.specs.declared.stmt.Constant.{Constant}
use Rattle.limbo_typed.specs.declared.stmt.Constant.TheVariants as constant

abbrev pub of_kind : Kind → Ty
of_kind kind.Byte = Byte
of_kind kind.Int = Int
of_kind kind.Big = Big

-- The types whose values are references. `nil` is a value of each, and of strings.
abbrev pub IsReference : Ty → Type 0
IsReference (ArrayOf t) = Unit {0}
IsReference (ListOf t) = Unit {0}
IsReference (ChanOf t) = Unit {0}
IsReference (RefAdt n) = Unit {0}
IsReference (RefPick n v) = Unit {0}
IsReference (Module n) = Unit {0}
IsReference _ = ⊥

abbrev pub HasNil : Ty → Type 0
HasNil Chars = Unit {0}
HasNil t = IsReference t

-- a `ref` of this adt, or of a variant of it
abbrev pub IsRefOf : (adt : ℕ) → Ty → Type 0
IsRefOf n (RefAdt m) = m ≡ n
IsRefOf n (RefPick m v) = m ≡ n
IsRefOf n _ = ⊥

abbrev pub IsVariantOf : Ty → Ty → Type 0
IsVariantOf (RefPick n v) u = u ≡ RefAdt n
IsVariantOf _ u = ⊥

-- A value of the first type stands where one of the second is asked for: they are the same, or the first is a `ref` of a variant and
-- the second of its adt.
abbrev pub Stands : Ty → Ty → Type 0
Stands t u = (t ≡ u) ⊎ IsVariantOf t u

-- values of these types, one after the other, where these are asked for
abbrev pub AllStand : List Ty → List Ty → Type 0
AllStand [] [] = Unit {0}
AllStand (t ∷ ts) (u ∷ us) = Stands t u × AllStand ts us
AllStand _ _ = ⊥

-- values of these types, each where this one is asked for
abbrev pub EachStands : List Ty → Ty → Type 0
EachStands [] u = Unit {0}
EachStands (t ∷ ts) u = Stands t u × EachStands ts u

-- ---- the rows of the table

-- operands of exactly these types, and what they give
abbrev pub Row : (operands : List Ty) → (result : Ty) → List Ty → Ty → Type 0
Row operands result ts t = (ts ≡ operands) × (t ≡ result)

-- two references of one type, or two `ref` of one adt, of which an int says how they compare
abbrev pub ComparesTwo : List Ty → Ty → Type 0
ComparesTwo (t ∷ u ∷ []) r = IsReference t × ((t ≡ u) ⊎ ((n : ℕ) × IsRefOf n t × IsRefOf n u)) × (r ≡ Int)
ComparesTwo _ r = ⊥

-- a value and a list that it is put before
abbrev pub PutsBefore : List Ty → Ty → Type 0
PutsBefore (t ∷ u ∷ []) r = (item : Ty) × Stands t item × (u ≡ ListOf item) × (r ≡ ListOf item)
PutsBefore _ r = ⊥

abbrev pub IsList : Ty → Type 0
IsList (ListOf t) = Unit {0}
IsList _ = ⊥

-- the types of strings, arrays and lists
abbrev pub IsSequence : Sequence → Ty → Type 0
IsSequence sequence.Chars Chars = Unit {0}
IsSequence sequence.Array (ArrayOf t) = Unit {0}
IsSequence sequence.List (ListOf t) = Unit {0}
IsSequence _ _ = ⊥

abbrev pub TakesLength : Sequence → List Ty → Ty → Type 0
TakesLength s (t ∷ []) r = IsSequence s t × (r ≡ Int)
TakesLength s _ r = ⊥

abbrev pub IsSliced : Sequence → Ty → Type 0
IsSliced sequence.List t = ⊥
IsSliced s t = IsSequence s t

-- the operand of a bound that is written
abbrev pub bound : Bool → List Ty
bound true = Int ∷ []
bound false = []

-- an adt of this number, which has variants
pub record IsPick (defs : List Def) (adt : ℕ) : Type 0 where
  pub def : Def
  pub there : slice_get defs adt ≡ Some def
  pub variants : def.picks ≡ [] → ⊥

abbrev pub TakesTag : List Def → List Ty → Ty → Type 0
TakesTag defs (t ∷ []) r = (n : ℕ) × IsRefOf n t × IsPick defs n × (r ≡ Int)
TakesTag defs _ r = ⊥

abbrev pub MakesRef : List Ty → Ty → Type 0
MakesRef (Adt n ∷ []) r = IsRefOf n r
MakesRef _ r = ⊥

-- the fields of a value of an adt: the common ones, and then those of its variant, where it is a pick adt
abbrev pub TakesFields : Def → (variant : Option ℕ) → List Ty → Type 0
TakesFields d None ts = (d.picks ≡ []) × AllStand ts (types_of d.fields)
TakesFields d (Some v) ts =
    (w : Variant) × (slice_get d.picks v ≡ Some w) × AllStand ts (types_of d.fields ++ types_of w.fields)

pub record MakesAdt (defs : List Def) (adt : ℕ) (variant : Option ℕ) (ts : List Ty) (t : Ty) : Type 0 where
  pub def : Def
  pub there : slice_get defs adt ≡ Some def
  pub fields : TakesFields def variant ts
  pub result : t ≡ Adt adt

-- a part of a tuple or of an adt's value, by its number among the parts as they lie in memory
abbrev pub HasPart : List Def → Ty → (part : ℕ) → Ty → Type 0
HasPart defs (Tuple ts) n t = slice_get (listed ts) n ≡ Some t
HasPart defs (Adt a) n t = (d : Def) × (slice_get defs a ≡ Some d) × (slice_get (parts d) n ≡ Some t)
HasPart defs _ n t = ⊥

-- Operands of these types fit the operation, which gives a value of this type.
abbrev pub Gives : List Def → Operation → List Ty → Ty → Type 0
Gives defs (Arithmetic o k) = Row (of_kind k ∷ of_kind k ∷ []) (of_kind k)
Gives defs (Shift s k) = Row (of_kind k ∷ Int ∷ []) (of_kind k)
Gives defs (Alter u k) = Row (of_kind k ∷ []) (of_kind k)
Gives defs (Compare c k) = Row (of_kind k ∷ of_kind k ∷ []) Int
Gives defs (CompareChars c) = Row (Chars ∷ Chars ∷ []) Int
Gives defs Identical = ComparesTwo
Gives defs Distinct = ComparesTwo
Gives defs Not = Row (Int ∷ []) Int
Gives defs (Convert k l) = Row (of_kind k ∷ []) (of_kind l)
Gives defs (ReadNumber k) = Row (Chars ∷ []) (of_kind k)
Gives defs (NumberText k) = Row (of_kind k ∷ []) Chars
Gives defs BytesText = Row (ArrayOf Byte ∷ []) Chars
Gives defs TextBytes = Row (Chars ∷ []) (ArrayOf Byte)
Gives defs Join = Row (Chars ∷ Chars ∷ []) Chars
Gives defs Cons = PutsBefore
Gives defs Head = λ ts t. ts ≡ ListOf t ∷ []
Gives defs Tail = λ ts t. IsList t × (ts ≡ t ∷ [])
Gives defs (Length s) = TakesLength s
Gives defs Tag = TakesTag defs
Gives defs Ref = MakesRef
Gives defs op.Tuple = λ ts t. (parts : Tys) × (t ≡ Tuple parts) × AllStand ts (listed parts)
Gives defs (op.Adt n v) = MakesAdt defs n v
Gives defs op.List = λ ts t. (item : Ty) × (t ≡ ListOf item) × EachStands ts item
Gives defs NewArray = λ ts t. (item : Ty) × (t ≡ ArrayOf item) × (ts ≡ Int ∷ [])
Gives defs (Slice s f g) = λ ts t. IsSliced s t × (ts ≡ t ∷ bound f ++ bound g)
Gives defs Character = Row (Chars ∷ Int ∷ []) Int

-- ---- numbers and constants

-- a byte, an int or a big of its range
abbrev pub IsNumber : Ty → ℤ → Type 0
IsNumber Byte n = InRange kind.Byte n
IsNumber Int n = InRange kind.Int n
IsNumber Big n = InRange kind.Big n
IsNumber _ n = ⊥

abbrev pub IsConstant : Ty → Constant → Type 0
IsConstant t (constant.Number n) = IsNumber t n
IsConstant t (constant.Chars s) = t ≡ Chars

-- what a receive gives: a value of a channel, or of an array of channels the index of one and its value
abbrev pub Receives : Ty → Ty → Type 0
Receives (ChanOf t) r = r ≡ t
Receives (ArrayOf (ChanOf t)) r = r ≡ Tuple (MoreTys Int (MoreTys t NoTys))
Receives _ r = ⊥
