-- What a read and a write of a place come to in the source's memory, root by root, where the place is no character of a string.
use Rattle.std.specs.Prelude.{ℕ, ◌+◌, ◌≡◌, ◌<◌, ◌≤◌, ℤ, pos, negsuc, false, List, [], ◌∷◌, Some, None, Ok, Err, slice_get, slice_set}
use Rattle.heap_model.specs.Heap.{at}
use Rattle.limbo_types.specs.Types.{Ty}
use Rattle.limbo_layout.specs.Adts.{Def}
use Rattle.limbo_meaning.specs.Values as value
use Rattle.limbo_meaning.specs.Values.{Value, Num, Ref, Array, fitted}
use Rattle.limbo_meaning.specs.Memory.{Memory, Elements, Record, Instance, with_variables, with_heap, changed}
use Rattle.limbo_meaning.specs.Exceptions.{dereference_of_nil, array_bounds}
use Rattle.limbo_meaning.specs.Places.{Root, Local, Global, Element, Target, Place, part_at, with_part, read, written}

-- The part of a value of a root to which these numbers lead, as one of a type.
abbrev pub place : Ty → Root → (part : List ℕ) → (operands : List Value) → Place
place t root part operands = record { type = t; way = record { root = root; parts = part; character = false }; operands = operands }

-- This value stands at the root: the part of it is read, and with another part in its place it is stored so.
abbrev pub IsChanged : List Def → Memory → Ty → Root → (part : List ℕ) → (operands : List Value) → Value → (Value → Memory) → Type 0
IsChanged defs m t root part operands old after =
    (read m (place t root part operands) ≡ Ok (part_at part old))
    × ((v : Value) → written defs m (place t root part operands) v ≡ Ok (after (with_part part (fitted defs t v) old)))

-- Neither a read nor a write is made, and this is raised.
abbrev pub IsRaised : List Def → Memory → Ty → Root → (part : List ℕ) → (operands : List Value) → List ℕ → Type 0
IsRaised defs m t root part operands text =
    (read m (place t root part operands) ≡ Err text) × ((v : Value) → written defs m (place t root part operands) v ≡ Err text)

pub record PlacesChange : Type 0 where
  -- a variable of the function, and one of the module
  pub local : (defs : List Def) (m : Memory) (t : Ty) (x : ℕ) (part : List ℕ) (operands : List Value) (old : Value) →
      slice_get m.variables x ≡ Some old →
      IsChanged defs m t (Local x) part operands old (λ new. with_variables m (slice_set m.variables x new))
  pub global : (defs : List Def) (m : Memory) (t : Ty) (x : ℕ) (part : List ℕ) (operands vs : List Value) (old : Value) →
      at m.heap m.instance ≡ Some (Instance vs) → slice_get vs x ≡ Some old →
      IsChanged defs m t (Global x) part operands old (λ new. with_heap m (changed m.heap m.instance (Instance (slice_set vs x new))))
  -- an element of part of an array
  pub element : (defs : List Def) (m : Memory) (t : Ty) (p : value.Part) (i : ℕ) (part : List ℕ) (vs : List Value) (old : Value) →
      i < p.long → at m.heap p.array ≡ Some (Elements vs) → slice_get vs (p.start + i) ≡ Some old →
      IsChanged defs m t Element part (Array (Some p) ∷ Num (pos i) ∷ []) old
      (λ new. with_heap m (changed m.heap p.array (Elements (slice_set vs (p.start + i) new))))
  -- which `nil` has none of, and no part any behind its end or before its first
  pub no_array : (defs : List Def) (m : Memory) (t : Ty) (z : ℤ) (part : List ℕ) →
      IsRaised defs m t Element part (Array None ∷ Num z ∷ []) dereference_of_nil
  pub behind_last : (defs : List Def) (m : Memory) (t : Ty) (p : value.Part) (i : ℕ) (part : List ℕ) → p.long ≤ i →
      IsRaised defs m t Element part (Array (Some p) ∷ Num (pos i) ∷ []) array_bounds
  pub before_first : (defs : List Def) (m : Memory) (t : Ty) (p : value.Part) (i : ℕ) (part : List ℕ) →
      IsRaised defs m t Element part (Array (Some p) ∷ Num (negsuc i) ∷ []) array_bounds
  -- what a `ref` names
  pub target : (defs : List Def) (m : Memory) (t : Ty) (n : ℕ) (part : List ℕ) (old : Value) → at m.heap n ≡ Some (Record old) →
      IsChanged defs m t Target part (Ref (Some n) ∷ []) old (λ new. with_heap m (changed m.heap n (Record new)))
  pub no_target : (defs : List Def) (m : Memory) (t : Ty) (part : List ℕ) →
      IsRaised defs m t Target part (Ref None ∷ []) dereference_of_nil
