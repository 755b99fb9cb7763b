-- Assignments (Limbo Language Reference, expressions).
use Rattle.std.specs.Prelude.{◌≡◌}
use Rattle.limbo_types.specs.Types.{Ty, Tys, Int, Nil, ArrayOf, Tuple, NoTys, MoreTys}
use Rattle.limbo_typed.specs.Typed.{Expr, Of, Place, Pattern, ToPlace, ToNothing, ToParts}
use Rattle.limbo_typed.specs.Typed.{Patterns, NoPatterns, MorePatterns, Assign, Copy}
use Rattle.limbo_typed.specs.Fitting.{Stands}
use Rattle.limbo_typed.specs.Sound.{type_of, type_at, IsSettled}
use Rattle.limbo_standing.specs.Standing.{Settles}
use Rattle.limbo_refusals.specs.Refusals.{Refusal, Clash}

-- ---- which values go there

-- A value of this type goes where the pattern says, part by part, each where it stands for the place's type.
abbrev mutual
  pub Takes : Pattern → Ty → Type 0
  Takes (ToPlace p) t = Stands t (type_at p)
  Takes ToNothing t = Unit {0}
  Takes (ToParts ps) (Tuple ts) = TakeEach ps ts
  Takes (ToParts ps) _ = ⊥

  pub TakeEach : Patterns → Tys → Type 0
  TakeEach NoPatterns NoTys = Unit {0}
  TakeEach (MorePatterns p ps) (MoreTys t ts) = Takes p t × TakeEach ps ts
  TakeEach _ _ = ⊥

-- The type that is asked of a value of a type: its own, where that is known and stands at the place, or where it goes nowhere; else
-- that of the place. Of a tuple each part is asked for itself.
mutual
  pub data Asks : Pattern → Ty → Ty → Type 0 where
    its_own : (p : Place) (t : Ty) → IsSettled t → Stands t (type_at p) → Asks (ToPlace p) t t
    the_places : (p : Place) (t : Ty) → (IsSettled t → Stands t (type_at p) → ⊥) → Asks (ToPlace p) t (type_at p)
    nowhere : (t : Ty) → IsSettled t → Asks ToNothing t t
    parts : (ps : Patterns) (ts us : Tys) → AskEach ps ts us → Asks (ToParts ps) (Tuple ts) (Tuple us)

  pub data AskEach : Patterns → Tys → Tys → Type 0 where
    no_more : AskEach NoPatterns NoTys NoTys
    and_more : (p : Pattern) (ps : Patterns) (t u : Ty) (ts us : Tys) → Asks p t u → AskEach ps ts us
        → AskEach (MorePatterns p ps) (MoreTys t ts) (MoreTys u us)

-- ---- pattern = value

-- An assignment to one place gives a value of the place's type, one to a tuple the tuple.
abbrev pub given : Pattern → Ty → Ty
given (ToPlace p) t = type_at p
given _ t = t

abbrev pub assignment : Pattern → Expr → Expr
assignment p v = Of (given p (type_of v)) (Assign p v)

pub data Assigns (p : Pattern) (value : Expr) : Expr → Type 0 where
  assigned : (asked : Ty) (v : Expr) → Asks p (type_of value) asked → Settles asked value v → Assigns p value (assignment p v)

-- The types that are told: that of the pattern, which is open where a value goes nowhere, and that of the value.
abbrev mutual
  pub type_in : Pattern → Ty
  type_in (ToPlace p) = type_at p
  type_in ToNothing = Nil
  type_in (ToParts ps) = Tuple (types_in ps)

  pub types_in : Patterns → Tys
  types_in NoPatterns = NoTys
  types_in (MorePatterns p ps) = MoreTys (type_in p) (types_in ps)

-- ---- array[from:] = value

abbrev pub copy : (array from value : Expr) → Expr
copy array from v = Of (type_of array) (Copy array from v)

-- an array of which is known what it holds
abbrev pub IsKnownArray : Ty → Type 0
IsKnownArray (ArrayOf t) = IsSettled t
IsKnownArray _ = ⊥

pub data Copies (array from value : Expr) : Expr → Type 0 where
  copied : (v : Expr) → IsKnownArray (type_of array) → type_of from ≡ Int → Settles (type_of array) value v
      → Copies array from value (copy array from v)

-- The types are told: of the array and the value, or of an index that is no int, and int.
pub data CopyingFails (array from value : Expr) : Refusal → Type 0 where
  of_values : CopyingFails array from value (Clash (type_of array) (type_of value))
  of_index : (type_of from ≡ Int → ⊥) → CopyingFails array from value (Clash (type_of from) Int)
