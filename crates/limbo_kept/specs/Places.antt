-- When a place is one of its type, and that reads and writes keep types.
use Rattle.std.specs.Prelude.{ℕ, ◌≡◌, List, [], ◌∷◌, Bool, true, false, Some, Ok, slice_get}
use Rattle.limbo_types.specs.Types as ty
use Rattle.limbo_types.specs.Types.{Ty}
use Rattle.limbo_layout.specs.Adts.{Def}
use Rattle.limbo_typed.specs.Fitting.{HasPart}
use Rattle.limbo_meaning.specs.Values.{Value, name_of}
use Rattle.limbo_meaning.specs.Memory.{Memory}
use Rattle.limbo_meaning.specs.Places.{Root, Local, Global, Element, Target, Place, operand, read, written}
use Rattle.limbo_kept.specs.Values.{Store, Adts, Refers, Fits}
use Rattle.limbo_kept.specs.Stores.{MemoryIsOf}
use Rattle.limbo_kept.specs.Operating.{HasRoom}

-- These numbers lead from a value of the first type to a part of the second.
abbrev pub Leads : List Def → Ty → List ℕ → Ty → Type 0
Leads defs t [] u = t ≡ u
Leads defs t (n ∷ ns) u = (s : Ty) × HasPart defs t n s × Leads defs s ns u

-- A character of a string is an int.
abbrev pub Ends : (character : Bool) → (inner outer : Ty) → Type 0
Ends true t u = (t ≡ ty.Chars) × (u ≡ ty.Int)
Ends false t u = t ≡ u

module _ (defs : List Def) (globals : List Ty) (store : Store) (types : List Ty) where
  -- A value of this type stands where a place begins: a variable that has it, an element of such an array, the adt that a reference names.
  abbrev pub Begins : Root → List Value → Ty → Type 0
  Begins (Local x) vs t = slice_get types x ≡ Some t
  Begins (Global x) vs t = slice_get globals x ≡ Some t
  Begins Element vs t = Fits defs store (ty.ArrayOf t) (operand 0 vs)
  Begins Target vs t = (n : ℕ) × (t ≡ ty.Adt n) × Refers store (Adts n) (name_of (operand 0 vs))

  pub record PlaceIs (p : Place) : Type 0 where
    pub root : Ty
    pub room : HasRoom defs root
    pub begins : Begins p.way.root p.operands root
    pub inner : Ty
    pub leads : Leads defs root p.way.parts inner
    pub ends : Ends p.way.character inner p.type

-- What is read at a place of a type fits it; and what fits the place's type is written, and all is as the store says again.
pub record PlacesKeepTypes : Type 0 where
  pub reads : (defs : List Def) (globals : List Ty) (store : Store) (types : List Ty) (m : Memory) →
      MemoryIsOf defs globals store types m → (p : Place) → PlaceIs defs globals store types p → (v : Value) → read m p ≡ Ok v → Fits defs
      store p.type v
  pub writes : (defs : List Def) (globals : List Ty) (store : Store) (types : List Ty) (m : Memory) →
      MemoryIsOf defs globals store types m → (p : Place) → PlaceIs defs globals store types p → (v : Value) → Fits defs store p.type v →
      (m' : Memory) → written defs m p v ≡ Ok m' → MemoryIsOf defs globals store types m'
