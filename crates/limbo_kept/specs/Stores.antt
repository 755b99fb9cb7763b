-- When a heap is as a store says, and a memory of the types of its variables.
use Rattle.std.specs.Prelude.{ℕ, ◌≡◌, List, Some, length, slice_get}
use Rattle.heap_model.specs.Heap.{Heap, at}
use Rattle.limbo_types.specs.Types as ty
use Rattle.limbo_types.specs.Types.{Ty}
use Rattle.limbo_layout.specs.Adts.{Def}
use Rattle.limbo_meaning.specs.Memory.{HeapValue, Elements, Cell, Record, Channel, Instance, Memory}
use Rattle.limbo_kept.specs.Values.{Standing, Items, Cells, Adts, Channels, Instances, Store, Refers, IsOf, AllAreOf, EachIsOf}

module _ (defs : List Def) (globals : List Ty) (store : Store) where
  -- What stands under a name is what the store says of it.
  abbrev pub Contains : Standing → HeapValue → Type 0
  Contains (Items t) (Elements vs) = EachIsOf defs store t vs
  Contains (Cells t) (Cell v r) = IsOf defs store t v × Refers store (Cells t) r
  Contains (Adts n) (Record v) = IsOf defs store (ty.Adt n) v
  Contains (Channels t) Channel = Unit {0}
  Contains Instances (Instance vs) = AllAreOf defs store globals vs
  Contains _ _ = ⊥

  pub record IsThere (n : ℕ) (u : HeapValue) : Type 0 where
    pub stands : Standing
    pub said : slice_get store n ≡ Some stands
    pub contains : Contains stands u

  -- The store has each name of the heap.
  pub record HeapIsOf (h : Heap HeapValue) : Type 0 where
    pub long : length store ≡ length h
    pub each : (n : ℕ) (u : HeapValue) → at h n ≡ Some u → IsThere n u

  -- The variables of a frame have these types, and those of its instance the module's.
  pub record MemoryIsOf (types : List Ty) (m : Memory) : Type 0 where
    pub variables : AllAreOf defs store types m.variables
    pub instance : slice_get store m.instance ≡ Some Instances
    pub heap : HeapIsOf m.heap

-- A store that says the same of each name, and of more names.
abbrev pub Grows : Store → Store → Type 0
Grows store later = (n : ℕ) (s : Standing) → slice_get store n ≡ Some s → slice_get later n ≡ Some s
