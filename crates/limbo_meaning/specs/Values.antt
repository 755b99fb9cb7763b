-- Values (Limbo Language Reference, types).
use Rattle.std.specs.Prelude.{ℕ, ℤ, zero, suc, pos, ◌+◌, List, [], ◌∷◌, ◌++◌, length, nat_eq, if◌then◌else◌, Option, Some, None, slice_get}
use Rattle.limbo_types.specs.Types as ty
use Rattle.limbo_types.specs.Types.{Ty, Tys}
use Rattle.limbo_types.specs.View.{tys_of}
use Rattle.limbo_layout.specs.Adts.{Def, parts}
use Rattle.limbo_values.specs.declared.number.Kind.{Kind}
use Rattle.limbo_values.specs.declared.number.Kind.TheVariants as kind
use Rattle.limbo_values.specs.Numbers.{wrapped}

-- Part of an array's elements: the name of the array, where the part starts in it, and how long it is.
pub record Part : Type 0 where
  pub array : ℕ
  pub start : ℕ
  pub long : ℕ

-- What a variable holds and an expression gives: a number; a string; the name of a list's first cell, of a `ref` adt, of a channel or
-- of a module's instance, or nothing, which is `nil`; part of an array, or nothing; the parts of a tuple or of an adt, in the order in
-- which they lie in memory.
mutual
  pub data Value : Type 0 where
    Num : ℤ → Value
    Chars : List ℕ → Value
    Ref : Option ℕ → Value
    Array : Option Part → Value
    Parts : Values → Value

  pub data Values : Type 0 where
    NoValues : Values
    MoreValues : Value → Values → Values

-- What a function without an answer gives: it has no parts.
abbrev pub nothing : Value
nothing = Parts NoValues

abbrev pub row : List Value → Values
row [] = NoValues
row (v ∷ vs) = MoreValues v (row vs)

abbrev pub listed : Values → List Value
listed NoValues = []
listed (MoreValues v vs) = v ∷ listed vs

-- ---- a value as one of a form; what isn't of the form counts as 0, as the empty string, as `nil`, as nothing

abbrev pub number_of : Value → ℤ
number_of (Num z) = z
number_of _ = pos 0

abbrev pub text_of : Value → List ℕ
text_of (Chars s) = s
text_of _ = []

abbrev pub name_of : Value → Option ℕ
name_of (Ref r) = r
name_of _ = None

abbrev pub part_of : Value → Option Part
part_of (Array p) = p
part_of _ = None

abbrev pub parts_of : Value → Values
parts_of (Parts vs) = vs
parts_of _ = NoValues

abbrev pub first_in : Values → Value
first_in NoValues = nothing
first_in (MoreValues v vs) = v

abbrev pub rest_in : Values → Values
rest_in NoValues = NoValues
rest_in (MoreValues v vs) = vs

-- ---- a value as one of a type

abbrev pub number_as : Kind → Value → Value
number_as k v = Num (wrapped k (number_of v))

module _ (adt : ℕ → Value → Value) where
  abbrev mutual
    pub formed : Ty → Value → Value
    formed ty.Byte v = number_as kind.Byte v
    formed ty.Int v = number_as kind.Int v
    formed ty.Big v = number_as kind.Big v
    formed ty.Chars v = Chars (text_of v)
    formed ty.Nothing v = nothing
    formed (ty.ArrayOf t) v = Array (part_of v)
    formed (ty.Tuple ts) v = Parts (all_formed ts (parts_of v))
    formed (ty.Adt n) v = adt n v
    formed t v = Ref (name_of v)

    pub all_formed : Tys → Values → Values
    all_formed ty.NoTys vs = NoValues
    all_formed (ty.MoreTys t ts) vs = MoreValues (formed t (first_in vs)) (all_formed ts (rest_in vs))

abbrev pub by_def : (Ty → Value → Value) → (Tys → Values → Values) → Option Def → Value → Value
by_def one all None v = nothing
by_def one all (Some d) v = Parts (all (tys_of (parts d)) (parts_of v))

-- A value of an adt, in which adts lie in one another at most so deep.
abbrev pub adt_formed : List Def → (depth : ℕ) → ℕ → Value → Value
adt_formed defs zero n v = nothing
adt_formed defs (suc k) n v = by_def (formed (adt_formed defs k)) (all_formed (adt_formed defs k)) (slice_get defs n) v

-- A value as one of a type: each part of it that has another form than the type says is zero or `nil`. No adt lies in itself, so they lie
-- in one another at most as deep as there are adts.
abbrev pub fitted : List Def → Ty → Value → Value
fitted defs t v = formed (adt_formed defs (length defs)) t v

-- Values as those of types, one after the other; what is left over of the types is zero or `nil`.
abbrev pub all_fitted : List Def → List Ty → List Value → List Value
all_fitted defs [] vs = []
all_fitted defs (t ∷ ts) [] = fitted defs t nothing ∷ all_fitted defs ts []
all_fitted defs (t ∷ ts) (v ∷ vs) = fitted defs t v ∷ all_fitted defs ts vs

-- The value of a variable before the first that is written to it: 0, the empty string, `nil`, or parts that are so.
abbrev pub zero_of : List Def → Ty → Value
zero_of defs t = fitted defs t nothing

-- ---- references

abbrev pub array_named : Option Part → Option ℕ
array_named None = None
array_named (Some p) = Some p.array

-- The words of a value that refer, in the order in which they lie in memory: each names a value of the heap, or nothing. Strings are plain
-- values, and aren't among them.
abbrev mutual
  pub references : Value → List (Option ℕ)
  references (Num z) = []
  references (Chars s) = []
  references (Ref r) = r ∷ []
  references (Array p) = array_named p ∷ []
  references (Parts vs) = all_references vs

  pub all_references : Values → List (Option ℕ)
  all_references NoValues = []
  all_references (MoreValues v vs) = references v ++ all_references vs

abbrev pub references_in : List Value → List (Option ℕ)
references_in [] = []
references_in (v ∷ vs) = references v ++ references_in vs

-- How often a word, and words, name n.
abbrev pub one : ℕ → Option ℕ → ℕ
one n None = 0
one n (Some m) = if nat_eq n m then 1 else 0

abbrev pub among : ℕ → List (Option ℕ) → ℕ
among n [] = 0
among n (r ∷ rs) = one n r + among n rs
