-- What makes no ring: new values, which name older ones, and stores of what never leads back.
use Rattle.std.specs.Prelude.{ℕ, ℤ, ◌≡◌, ◌<◌, List, Option, Ok}
use Rattle.heap_model.specs.Heap.{Heap, graph, stays}
use Rattle.limbo_types.specs.Types as ty
use Rattle.limbo_types.specs.Types.{Ty}
use Rattle.limbo_layout.specs.Adts.{Def}
use Rattle.limbo_adts.specs.Reaches.{Reaches}
use Rattle.limbo_typed.specs.Typed.{Module}
use Rattle.limbo_meaning.specs.Values.{Part, Value, array_named, references}
use Rattle.limbo_meaning.specs.Memory.{HeapValue, inside, Memory, made}
use Rattle.limbo_meaning.specs.Places.{Place, written}
use Rattle.limbo_meaning.specs.Operations.{copied}
use Rattle.limbo_meaning.specs.Evaluation.{element_at}
use Rattle.limbo_meaning.specs.Origins.{Name}
use Rattle.limbo_meaning.specs.Runs.{first_world}
use Rattle.limbo_kept.specs.Values.{Standing, Items, Cells, Adts, Channels, Instances, Store, Refers, Fits, EachIsOf}
use Rattle.limbo_kept.specs.Stores.{Contains, MemoryIsOf}
use Rattle.limbo_kept.specs.Places.{PlaceIs}
use Rattle.limbo_kept.specs.Permitting.{NeverBack, MayWrite}
use Rattle.limbo_rings.specs.Rings.{HasNoRing}

-- The type of what names a value of the heap, as a store says what it is. An instance has none: no value names one.
abbrev pub type_of : Standing → Ty
type_of (Items t) = ty.ArrayOf t
type_of (Cells t) = ty.ListOf t
type_of (Adts n) = ty.RefAdt n
type_of (Channels t) = ty.ChanOf t
type_of Instances = ty.Nothing

-- What may be stored at a place never comes to hold the object in which the place lies.
abbrev pub IsAllowed : List Def → (root : Ty) → Place → Type 0
IsAllowed defs root p = MayWrite NeverBack defs p.way.root root p.type

-- A new value of the heap names values that were there before.
abbrev pub NewMakesNoRing : Type 0
NewMakesNoRing =
    (defs : List Def) (globals : List Ty) (store : Store) (types : List Ty) (m : Memory) → MemoryIsOf defs globals store types m →
    (s : Standing) (u : HeapValue) → Contains defs globals store s u → HasNoRing (graph inside m.heap) →
    HasNoRing (graph inside (made m u).heap)

-- A write at a place of its type, whose type doesn't reach that of the object in which the place lies.
abbrev pub WritesMakeNoRing : Type 0
WritesMakeNoRing =
    (defs : List Def) (globals : List Ty) (store : Store) (types : List Ty) (m : Memory) → MemoryIsOf defs globals store types m →
    (p : Place) (is : PlaceIs defs globals store types p) → IsAllowed defs is.root p → (v : Value) → Fits defs store p.type v →
    (m' : Memory) → written defs m p v ≡ Ok m' → HasNoRing (graph inside m.heap) → HasNoRing (graph inside m'.heap)

-- A copy of elements into an array of a type that they don't reach.
abbrev pub CopiesMakeNoRing : Type 0
CopiesMakeNoRing =
    (defs : List Def) (globals : List Ty) (store : Store) (types : List Ty) (m : Memory) → MemoryIsOf defs globals store types m →
    (t : Ty) (array : Option Part) → Refers store (Items t) (array_named array) → (Reaches defs t (ty.ArrayOf t) → ⊥) →
    (from : ℤ) (vs : List Value) → EachIsOf defs store t vs →
    (m' : Memory) → copied m array from vs ≡ Ok m' → HasNoRing (graph inside m.heap) → HasNoRing (graph inside m'.heap)

-- No value of the heap names this one.
abbrev pub IsUnnamed : Heap HeapValue → ℕ → Type 0
IsUnnamed h o = (a : ℕ) → 0 < (graph inside h).uses a o → ⊥

-- An element of an array that no value names yet, as of one that an initialiser fills: the array may hold any value that doesn't name it.
abbrev pub FillsMakeNoRing : Type 0
FillsMakeNoRing =
    (defs : List Def) (m : Memory) (t : Ty) (part : Part) (index : ℤ) → IsUnnamed m.heap part.array → (v : Value) →
    (Name (references v) part.array → ⊥) → (m' : Memory) → written defs m (element_at t part index) v ≡ Ok m' →
    HasNoRing (graph inside m.heap) → HasNoRing (graph inside m'.heap)

-- What stays of a heap without rings has none.
abbrev pub CutsMakeNoRing : Type 0
CutsMakeNoRing = (roots : ℕ → ℕ) (h : Heap HeapValue) → HasNoRing (graph inside h) → HasNoRing (graph inside (stays inside roots h))

-- A run begins without rings.
abbrev pub OpeningsHaveNoRing : Type 0
OpeningsHaveNoRing = (m : Module) (words : List (List ℕ)) → HasNoRing (graph inside (first_world m words).heap)
