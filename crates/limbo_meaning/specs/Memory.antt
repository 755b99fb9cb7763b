-- The heap, and what the statements of a frame read and write.
use Rattle.std.specs.Prelude.{ℕ, zero, suc, ◌+◌, List, [], ◌∷◌, ◌++◌, length, Option, Some, None, slice_set}
use Rattle.heap_model.specs.Heap.{Heap, at}
use Rattle.limbo_meaning.specs.Values.{Value, nothing, references, references_in, one, among}

-- What a reference names: the elements of an array; a cell of a list, with the name of the cell behind it; the adt of a `ref`; a channel;
-- an instance of a module, which has its variables.
pub data HeapValue : Type 0 where
  Elements : List Value → HeapValue
  Cell : (head : Value) → (tail : Option ℕ) → HeapValue
  Record : Value → HeapValue
  Channel : HeapValue
  Instance : List Value → HeapValue

-- How often a value of the heap names n.
abbrev pub inside : HeapValue → ℕ → ℕ
inside (Elements vs) n = among n (references_in vs)
inside (Cell v r) n = among n (references v) + one n r
inside (Record v) n = among n (references v)
inside Channel n = 0
inside (Instance vs) n = among n (references_in vs)

-- What a frame's statements read and write: the variables of the frame, those of its instance, and the heap.
pub record Memory : Type 0 where
  pub variables : List Value
  pub instance : ℕ
  pub heap : Heap HeapValue

abbrev pub with_variables : Memory → List Value → Memory
with_variables m vs = record { variables = vs; instance = m.instance; heap = m.heap }

abbrev pub with_heap : Memory → Heap HeapValue → Memory
with_heap m h = record { variables = m.variables; instance = m.instance; heap = h }

-- ---- the heap

-- A new value gets the next name. No name is used twice: a place stays behind when its value has gone.
abbrev pub next_name : Memory → ℕ
next_name m = length m.heap

abbrev pub made : Memory → HeapValue → Memory
made m v = with_heap m (m.heap ++ Some v ∷ [])

-- A value of the heap changes, where there is one of this name.
abbrev pub changed_to : Heap HeapValue → ℕ → Option HeapValue → HeapValue → Heap HeapValue
changed_to h n None v = h
changed_to h n (Some u) v = slice_set h n (Some v)

abbrev pub changed : Heap HeapValue → ℕ → HeapValue → Heap HeapValue
changed h n v = changed_to h n (at h n) v

-- ---- what is there under a name; what is of another form has no elements, no variables, and nothing else in it

abbrev pub elements_in : Option HeapValue → List Value
elements_in (Some (Elements vs)) = vs
elements_in _ = []

abbrev pub head_in : Option HeapValue → Value
head_in (Some (Cell v r)) = v
head_in _ = nothing

abbrev pub tail_in : Option HeapValue → Option ℕ
tail_in (Some (Cell v r)) = r
tail_in _ = None

abbrev pub record_in : Option HeapValue → Value
record_in (Some (Record v)) = v
record_in _ = nothing

abbrev pub variables_in : Option HeapValue → List Value
variables_in (Some (Instance vs)) = vs
variables_in _ = []

-- The variables of the module.
abbrev pub globals_of : Memory → List Value
globals_of m = variables_in (at m.heap m.instance)

-- How many cells a list has, followed by so many steps at most.
abbrev pub list_length : Heap HeapValue → (most : ℕ) → Option ℕ → ℕ
list_length h zero r = 0
list_length h (suc k) None = 0
list_length h (suc k) (Some n) = suc (list_length h k (tail_in (at h n)))
