-- When a value is of a type, in a store.
use Rattle.std.specs.Prelude.{ℕ, ◌≡◌, ◌<◌, List, [], ◌∷◌, Option, Some, None, slice_get}
use Rattle.limbo_types.specs.Types as ty
use Rattle.limbo_types.specs.Types.{Ty}
use Rattle.limbo_layout.specs.Adts as adts
use Rattle.limbo_layout.specs.Adts.{Def, parts}
use Rattle.limbo_values.specs.declared.number.Kind.{Kind}
use Rattle.limbo_values.specs.declared.number.Kind.TheVariants as kind
use Rattle.limbo_values.specs.Numbers.{InRange}
use Rattle.limbo_meaning.specs.Values.{Value, Num, Chars, Ref, Array, Parts, NoValues, row, array_named, fitted}

-- What a name of the heap stands for, for good: the elements of arrays of a type, a cell of a list, an adt that a `ref` names, a channel,
-- the instance of the module.
pub data Standing : Type 0 where
  Items : (item : Ty) → Standing
  Cells : (item : Ty) → Standing
  Adts : (adt : ℕ) → Standing
  Channels : (item : Ty) → Standing
  Instances : Standing

-- A store says of each name what it stands for.
abbrev pub Store : Type 0
Store = List Standing

-- A text is of characters.
abbrev pub AreCharacters : List ℕ → Type 0
AreCharacters [] = Unit {0}
AreCharacters (c ∷ cs) = (c < 1114112) × AreCharacters cs

-- ---- values without parts

abbrev pub IsNumberOf : Kind → Value → Type 0
IsNumberOf k (Num z) = InRange k z
IsNumberOf k _ = ⊥

abbrev pub IsText : Value → Type 0
IsText (Chars s) = AreCharacters s
IsText _ = ⊥

abbrev pub IsNothing : Value → Type 0
IsNothing (Parts NoValues) = Unit {0}
IsNothing _ = ⊥

module _ (store : Store) where
  -- Nothing, or a name that stands for this.
  abbrev pub Refers : Standing → Option ℕ → Type 0
  Refers s None = Unit {0}
  Refers s (Some n) = slice_get store n ≡ Some s

  abbrev pub IsReferenceTo : Standing → Value → Type 0
  IsReferenceTo s (Ref r) = Refers s r
  IsReferenceTo s _ = ⊥

  abbrev pub IsPartOf : Ty → Value → Type 0
  IsPartOf t (Array p) = Refers (Items t) (array_named p)
  IsPartOf t _ = ⊥

  -- A value of a type whose values have no parts in place. A `ref` of a variant names what one of its adt names. No value of a module is
  -- there but `nil`, as long as none is loaded.
  abbrev pub IsAlone : Ty → Value → Type 0
  IsAlone ty.Byte v = IsNumberOf kind.Byte v
  IsAlone ty.Int v = IsNumberOf kind.Int v
  IsAlone ty.Big v = IsNumberOf kind.Big v
  IsAlone ty.Chars v = IsText v
  IsAlone ty.Nothing v = IsNothing v
  IsAlone ty.Nil v = v ≡ Ref None
  IsAlone (ty.ArrayOf t) v = IsPartOf t v
  IsAlone (ty.ListOf t) v = IsReferenceTo (Cells t) v
  IsAlone (ty.ChanOf t) v = IsReferenceTo (Channels t) v
  IsAlone (ty.RefAdt n) v = IsReferenceTo (Adts n) v
  IsAlone (ty.RefPick n k) v = IsReferenceTo (Adts n) v
  IsAlone (ty.Module n) v = v ≡ Ref None
  IsAlone _ v = ⊥

-- A value is of a type: alone, or part by part, as a tuple's type says or an adt's definition.
mutual
  pub data IsOf (defs : List Def) (store : Store) : Ty → Value → Type 0 where
    is_alone : (t : Ty) (v : Value) → IsAlone store t v → IsOf defs store t v
    of_tuple : (ts : ty.Tys) (v : Value) (vs : List Value) → v ≡ Parts (row vs) → AllAreOf defs store (adts.listed ts) vs
        → IsOf defs store (ty.Tuple ts) v
    of_adt : (n : ℕ) (d : Def) (v : Value) (vs : List Value) → slice_get defs n ≡ Some d → v ≡ Parts (row vs)
        → AllAreOf defs store (parts d) vs → IsOf defs store (ty.Adt n) v

  pub data AllAreOf (defs : List Def) (store : Store) : List Ty → List Value → Type 0 where
    none_of : AllAreOf defs store [] []
    more_of : (t : Ty) (ts : List Ty) (v : Value) (vs : List Value) → IsOf defs store t v → AllAreOf defs store ts vs
        → AllAreOf defs store (t ∷ ts) (v ∷ vs)

-- A value that is one of a type once it is brought to it.
abbrev pub Fits : List Def → Store → Ty → Value → Type 0
Fits defs store t v = IsOf defs store t (fitted defs t v)

-- Values of which each is so, one after the other.
abbrev pub AllFit : List Def → Store → List Ty → List Value → Type 0
AllFit defs store [] [] = Unit {0}
AllFit defs store (t ∷ ts) (v ∷ vs) = Fits defs store t v × AllFit defs store ts vs
AllFit defs store _ _ = ⊥

-- Each of them is of one type.
abbrev pub EachIsOf : List Def → Store → Ty → List Value → Type 0
EachIsOf defs store t [] = Unit {0}
EachIsOf defs store t (v ∷ vs) = IsOf defs store t v × EachIsOf defs store t vs

abbrev pub EachFits : List Def → Store → Ty → List Value → Type 0
EachFits defs store t [] = Unit {0}
EachFits defs store t (v ∷ vs) = Fits defs store t v × EachFits defs store t vs
