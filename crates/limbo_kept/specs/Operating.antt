-- What operations leave: a heap that is as a store says, and a value of the type that they give.
use Rattle.std.specs.Prelude.{ℕ, ◌≡◌, ◌≤◌, List, length, Some, Ok}
use Rattle.heap_model.specs.Heap.{at}
use Rattle.limbo_types.specs.Types.{Ty}
use Rattle.limbo_layout.specs.Adts.{Def}
use Rattle.limbo_layout.specs.Layout.{Room, Laid}
use Rattle.limbo_typed.specs.declared.operation.Operation.{Operation}
use Rattle.limbo_typed.specs.Fitting.{Gives}
use Rattle.limbo_meaning.specs.Values.{Value}
use Rattle.limbo_meaning.specs.Memory.{HeapValue, Memory}
use Rattle.limbo_meaning.specs.Operations.{Outcome, item_of, result_of}
use Rattle.limbo_kept.specs.Values.{Standing, Store, Fits, AllFit}
use Rattle.limbo_kept.specs.Stores.{Contains, MemoryIsOf, Grows}

-- A type has a layout.
abbrev pub HasRoom : List Def → Ty → Type 0
HasRoom defs t = (r : Room) × Laid defs t r

module _ (defs : List Def) (globals : List Ty) (store : Store) (types : List Ty) where
  -- The store has grown, the memory is as it says then, and the value is of a type. A value of the heap that is new names what the store
  -- knew before.
  pub record IsLeft (t : Ty) (r : Outcome) : Type 0 where
    pub later : Store
    pub grows : Grows store later
    pub memory : MemoryIsOf defs globals later types r.memory
    pub value : Fits defs later t r.value
    pub news : (n : ℕ) (u : HeapValue) → length store ≤ n → at r.memory.heap n ≡ Some u → (s : Standing) × Contains defs globals store s u

-- Of operands that fit the types which an operation takes, it leaves a value of the type that it gives.
abbrev pub OperationsKeepTypes : Type 0
OperationsKeepTypes =
    (defs : List Def) (globals : List Ty) (store : Store) (types : List Ty) (m : Memory) → MemoryIsOf defs globals store types m →
    (o : Operation) (us : List Ty) (t : Ty) (vs : List Value) → HasRoom defs t → HasRoom defs (item_of t) → Gives defs o us t →
    AllFit defs store us vs → (r : Outcome) → result_of defs m t o vs ≡ Ok r → IsLeft defs globals store types t r
