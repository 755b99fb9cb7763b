-- What one step of a well-typed tree does to the memory.
use Rattle.std.specs.Prelude.{ℕ, ℤ, ◌≡◌, List, Option, None, Ok}
use Rattle.heap_model.specs.Heap.{graph}
use Rattle.limbo_types.specs.Types as ty
use Rattle.limbo_types.specs.Types.{Ty}
use Rattle.limbo_meaning.specs.Values.{Part, Value, array_named, references}
use Rattle.limbo_meaning.specs.Memory.{HeapValue, inside, Memory, made}
use Rattle.limbo_meaning.specs.Places.{Place, written}
use Rattle.limbo_meaning.specs.Operations.{copied}
use Rattle.limbo_meaning.specs.Trees.{Term}
use Rattle.limbo_meaning.specs.Evaluation.{Stepped, element_at, next}
use Rattle.limbo_meaning.specs.Origins.{Name}
use Rattle.limbo_kept.specs.Values.{Standing, Items, Store, Refers, Fits, EachIsOf}
use Rattle.limbo_kept.specs.Stores.{Contains, MemoryIsOf}
use Rattle.limbo_kept.specs.Places.{PlaceIs}
use Rattle.limbo_kept.specs.Permitting.{NeverBack, MayStore, MayWrite}
use Rattle.limbo_kept.specs.Trees.{Scope, TermIs}
use Rattle.limbo_filling.specs.Filling.{FillsApart}
use Rattle.limbo_rings.specs.Rings.{HasNoRing}
use Rattle.limbo_rings.specs.Storing.{IsUnnamed}

-- Nothing; or it adds a value to the heap, which names what was there before; or it writes at a place of its type what may be stored there;
-- or to an element of an array that no value of the heap names, and that isn't named by what is written; or it copies elements of an
-- array's type into the array, where they may be stored.
pub data Does (s : Scope) (store : Store) (m : Memory) : Memory → Type 0 where
  as_it_was : Does s store m m
  added : (k : Standing) (u : HeapValue) → Contains s.adts s.globals store k u → Does s store m (made m u)
  wrote : (p : Place) (is : PlaceIs s.adts s.globals store s.variables p) → MayWrite s.stores s.adts p.way.root is.root p.type → (v : Value)
      → Fits s.adts store p.type v → (m' : Memory) → written s.adts m p v ≡ Ok m' → Does s store m m'
  filled : (t : Ty) (part : Part) (index : ℤ) (v : Value) → IsUnnamed m.heap part.array → (Name (references v) part.array → ⊥)
      → (m' : Memory) → written s.adts m (element_at t part index) v ≡ Ok m' → Does s store m m'
  copied_to : (t : Ty) (array : Option Part) → Refers store (Items t) (array_named array) → MayStore s.stores s.adts (ty.ArrayOf t) t
      → (from : ℤ) (vs : List Value) → EachIsOf s.adts store t vs → (m' : Memory) → copied m array from vs ≡ Ok m' → Does s store m m'

-- So it is with each step of a tree that is apart from the arrays that it fills.
abbrev pub StepsDo : Type 0
StepsDo =
    (s : Scope) (store : Store) (m : Memory) → MemoryIsOf s.adts s.globals store s.variables m → (e : Term) (t : Ty) →
    TermIs s store None e t → FillsApart m e → (m' : Memory) (got : List (Option ℕ)) (x : Term) → next s.adts m e ≡ Stepped m' got x →
    Does s store m m'

-- Where only what never leads back may be stored, no step of a tree makes a ring.
abbrev pub StepsMakeNoRing : Type 0
StepsMakeNoRing =
    (s : Scope) → s.stores ≡ NeverBack → (store : Store) (m : Memory) → MemoryIsOf s.adts s.globals store s.variables m →
    (e : Term) (t : Ty) → TermIs s store None e t → FillsApart m e → (m' : Memory) (got : List (Option ℕ)) (x : Term) →
    next s.adts m e ≡ Stepped m' got x → HasNoRing (graph inside m.heap) → HasNoRing (graph inside m'.heap)
