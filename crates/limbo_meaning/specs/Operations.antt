-- What operations give of values (Limbo Language Reference, expressions).
use Rattle.std.specs.Prelude.{ℕ, ℤ, zero, suc, pos, negsuc, ◌+◌, ◌-◌, ◌*◌, Bool, true, false, ◌==◌, ◌&&◌, List, [], ◌∷◌, ◌++◌, map}
use Rattle.std.specs.Prelude.{length, take, drop, replicate, Option, Some, None, Ok, Err}
use Rattle.std.specs.Prelude.{slice_get, slice_range, nat_lt, if◌then◌else◌}
use Rattle.inf_text.specs.Steps.{◌>>=◌}
use Rattle.limbo_types.specs.Types as ty
use Rattle.limbo_types.specs.Types.{Ty}
use Rattle.limbo_layout.specs.Adts.{Def, parts, variant_types}
use Rattle.limbo_layout.specs.Layout as layout
use Rattle.limbo_layout.specs.Layout.{Room, in_order}
use Rattle.limbo_layout.specs.Laying.{room, rooms_of}
use Rattle.limbo_values.specs.Numbers.{wrapped}
use Rattle.limbo_values.specs.Operators.{applied, shifted, altered, compared, denied, truth}
use Rattle.limbo_values.specs.Operators as operators
use Rattle.limbo_values.specs.Conversions.{number_text, number_read}
use Rattle.limbo_values.specs.Texts.{bounds_in, character_in, slice_in, joined, text_compared}
use Rattle.limbo_typed.specs.declared.operation.Operation.{Operation}
use Rattle.limbo_typed.specs.declared.operation.Operation.TheVariants as operation
use Rattle.limbo_typed.specs.declared.operation.Sequence.{Sequence}
use Rattle.limbo_typed.specs.declared.operation.Sequence.TheVariants as sequence
use Rattle.limbo_typed.specs.declared.operation.Connective.{Connective}
use Rattle.limbo_typed.specs.declared.operation.Connective.TheVariants as connective
use Rattle.limbo_typed.specs.declared.stmt.Constant.{Constant}
use Rattle.limbo_typed.specs.declared.stmt.Constant.TheVariants as constant
use Rattle.heap_model.specs.Heap.{at}
use Rattle.limbo_meaning.specs.Values.{Part, Value, Num, Chars, Ref, Array, Parts, nothing, row, first_in, parts_of}
use Rattle.limbo_meaning.specs.Values.{number_of, text_of, name_of, part_of, fitted, zero_of}
use Rattle.limbo_meaning.specs.Memory.{HeapValue, Elements, Cell, Record, Memory, with_heap, next_name, made, changed}
use Rattle.limbo_meaning.specs.Memory.{elements_in, head_in, tail_in, record_in, list_length}
use Rattle.limbo_meaning.specs.Exceptions.{Raising, with_text, array_bounds, negative_size, too_large}
use Rattle.limbo_meaning.specs.Bytes.{string_of, bytes_of}
use Rattle.limbo_meaning.specs.Places.{operand, target_of, not_longer}

-- The value of a constant.
abbrev pub constant_value : Constant → Value
constant_value (constant.Number n) = Num n
constant_value (constant.Chars s) = Chars s

-- What an operation leaves: the memory, and a value.
pub record Outcome : Type 0 where
  pub memory : Memory
  pub value : Value

-- ---- arrays

-- The rooms of adts: each round has those whose parts have theirs.
abbrev pub rooms_after : List Def → (rounds : ℕ) → List Room
rooms_after defs zero = map (λ d. layout.nothing) defs
rooms_after defs (suc k) = map (λ d. in_order (rooms_of (rooms_after defs k) (parts d))) defs

-- How many bytes a value of a type takes.
abbrev pub size_of : List Def → Ty → ℕ
size_of defs t = (room (rooms_after defs (length defs)) t).size

-- The most bytes that the elements of an array may take.
abbrev pub largest : ℕ
largest = 268435456

-- The length of a new array.
abbrev pub length_for : List Def → Ty → ℤ → Raising ℕ
length_for defs t (pos n) = if nat_lt largest (n * size_of defs t) then Err too_large else Ok n
length_for defs t (negsuc n) = Err negative_size

-- All of a new value of the heap, which has this name.
abbrev pub whole : (name long : ℕ) → Value
whole n l = Array (Some (record { array = n; start = 0; long = l }))

abbrev pub new_elements : Memory → List Value → Outcome
new_elements m vs = record { memory = made m (Elements vs); value = whole (next_name m) (length vs) }

abbrev pub new_reference : Memory → HeapValue → Outcome
new_reference m v = record { memory = made m v; value = Ref (Some (next_name m)) }

-- the elements of part of an array
abbrev pub elements_of : Memory → Option Part → List Value
elements_of m None = []
elements_of m (Some p) = slice_range (elements_in (at m.heap p.array)) p.start (p.start + p.long)

abbrev pub long_of : Option Part → ℕ
long_of None = 0
long_of (Some p) = p.long

-- Part of a part. A slice of `nil` is `nil`.
abbrev pub sliced : Option Part → ℕ × ℕ → Option Part
sliced None b = None
sliced (Some p) b = Some (record { array = p.array; start = p.start + b.0; long = b.1 - b.0 })

-- A bound that isn't written is 0, or the length; the bounds that are stand behind the whole.
abbrev pub from_bound : (written : Bool) → List Value → ℤ
from_bound true vs = number_of (operand 1 vs)
from_bound false vs = pos 0

abbrev pub to_bound : (from_written written : Bool) → ℕ → List Value → ℤ
to_bound true true n vs = number_of (operand 2 vs)
to_bound false true n vs = number_of (operand 1 vs)
to_bound f false n vs = pos n

-- Elements in place of as many others, from an index on.
abbrev pub overwritten : List Value → ℕ → List Value → List Value
overwritten xs i ys = take i xs ++ (ys ++ drop (i + length ys) xs)

-- The copy of elements into part of an array, where there is room for all of them: `nil` has none.
abbrev pub copied_into : Memory → Option Part → List Value → ℕ × ℕ → Memory
copied_into m None ys b = m
copied_into m (Some p) ys b =
    with_heap m (changed m.heap p.array (Elements (overwritten (elements_in (at m.heap p.array)) (p.start + b.0) ys)))

abbrev pub copied : Memory → (array : Option Part) → (from : ℤ) → List Value → Raising Memory
copied m a (pos i) ys = with_text (bounds_in (long_of a) (pos i) (pos (i + length ys))) >>= λ b. Ok (copied_into m a ys b)
copied m a (negsuc i) ys = Err array_bounds

-- ---- references

-- Two references are the same one, or `nil` both.
abbrev pub same_name : Option ℕ → Option ℕ → Bool
same_name None None = true
same_name (Some n) (Some m) = n == m
same_name _ _ = false

abbrev pub same_part : Option Part → Option Part → Bool
same_part None None = true
same_part (Some p) (Some q) = (p.array == q.array) && ((p.start == q.start) && (p.long == q.long))
same_part _ _ = false

abbrev pub same_reference : Value → Value → Bool
same_reference (Array p) v = same_part p (part_of v)
same_reference v w = same_name (name_of v) (name_of w)

abbrev pub other_than : Bool → Bool
other_than true = false
other_than false = true

-- ---- adts

-- The parts of a value of an adt: of a variant its number comes first, then the common fields, then the fields of each variant, of which
-- the others have none.
abbrev pub adt_parts : Option Def → Option ℕ → List Value → List Value
adt_parts (Some d) (Some v) vs =
    Num (pos v) ∷ (take (length d.fields) vs ++ (replicate (length (variant_types (take v d.picks))) nothing ++ drop (length d.fields) vs))
adt_parts d v vs = vs

-- What values of a type are made of or name: the elements of an array and of a list, the adt of a `ref`.
abbrev pub item_of : Ty → Ty
item_of (ty.ArrayOf t) = t
item_of (ty.ListOf t) = t
item_of (ty.RefAdt n) = ty.Adt n
item_of (ty.RefPick n v) = ty.Adt n
item_of t = t

-- ---- operations

module _ (defs : List Def) (m : Memory) where
  abbrev pub gives : Value → Raising Outcome
  gives v = Ok (record { memory = m; value = v })

  abbrev pub gives_number : Raising ℤ → Raising Outcome
  gives_number r = r >>= λ z. gives (Num z)

  abbrev pub gives_string : Raising (List ℕ) → Raising Outcome
  gives_string r = r >>= λ t. gives (Chars t)

  abbrev pub gives_truth : Bool → Raising Outcome
  gives_truth b = gives (Num (truth b))

  -- What is in the value of the heap that a reference names.
  abbrev pub gives_inner : (Option HeapValue → Value) → Value → Raising Outcome
  gives_inner inner v = target_of (name_of v) >>= λ n. gives (inner (at m.heap n))

  abbrev pub length_in : Sequence → Value → ℕ
  length_in sequence.Chars v = length (text_of v)
  length_in sequence.Array v = long_of (part_of v)
  length_in sequence.List v = list_length m.heap (length m.heap) (name_of v)

  abbrev pub slice_of : Sequence → (has_from has_to : Bool) → List Value → Raising Outcome
  slice_of sequence.Chars f g vs =
      let text = text_of (operand 0 vs) in
      gives_string (with_text (slice_in text (from_bound f vs) (to_bound f g (length text) vs)))
  slice_of _ f g vs =
      let part = part_of (operand 0 vs) in
      with_text (bounds_in (long_of part) (from_bound f vs) (to_bound f g (long_of part) vs)) >>= λ b. gives (Array (sliced part b))

  abbrev pub new_array : Ty → ℤ → Raising Outcome
  new_array t n = length_for defs t n >>= λ l. Ok (new_elements m (replicate l (zero_of defs t)))

  -- What an operation gives of its operands where a value of this type is asked for, or the exception that it raises.
  abbrev pub result_of : Ty → Operation → List Value → Raising Outcome
  result_of t (operation.Arithmetic o k) vs = gives_number (with_text (applied k o (number_of (operand 0 vs)) (number_of (operand 1 vs))))
  result_of t (operation.Shift h k) vs = gives (Num (shifted k h (number_of (operand 0 vs)) (number_of (operand 1 vs))))
  result_of t (operation.Alter u k) vs = gives (Num (altered k u (number_of (operand 0 vs))))
  result_of t (operation.Compare c k) vs = gives_truth (compared c (number_of (operand 0 vs)) (number_of (operand 1 vs)))
  result_of t (operation.CompareChars c) vs = gives_truth (text_compared c (text_of (operand 0 vs)) (text_of (operand 1 vs)))
  result_of t operation.Identical vs = gives_truth (same_reference (operand 0 vs) (operand 1 vs))
  result_of t operation.Distinct vs = gives_truth (other_than (same_reference (operand 0 vs) (operand 1 vs)))
  result_of t operation.Not vs = gives (Num (denied (number_of (operand 0 vs))))
  result_of t (operation.Convert from to) vs = gives (Num (wrapped to (number_of (operand 0 vs))))
  result_of t (operation.ReadNumber k) vs = gives (Num (number_read k (text_of (operand 0 vs))))
  result_of t (operation.NumberText k) vs = gives (Chars (number_text (number_of (operand 0 vs))))
  result_of t operation.BytesText vs = gives_string (not_longer (string_of (elements_of m (part_of (operand 0 vs)))))
  result_of t operation.TextBytes vs = Ok (new_elements m (bytes_of (text_of (operand 0 vs))))
  result_of t operation.Join vs = gives_string (with_text (joined (text_of (operand 0 vs)) (text_of (operand 1 vs))))
  result_of t operation.Cons vs = Ok (new_reference m (Cell (fitted defs (item_of t) (operand 0 vs)) (name_of (operand 1 vs))))
  result_of t operation.Head vs = gives_inner head_in (operand 0 vs)
  result_of t operation.Tail vs = gives_inner (λ h. Ref (tail_in h)) (operand 0 vs)
  result_of t (operation.Length q) vs = gives (Num (pos (length_in q (operand 0 vs))))
  result_of t operation.Tag vs = gives_inner (λ h. first_in (parts_of (record_in h))) (operand 0 vs)
  result_of t operation.Ref vs = Ok (new_reference m (Record (fitted defs (item_of t) (operand 0 vs))))
  result_of t operation.Tuple vs = gives (Parts (row vs))
  result_of t (operation.Adt n v) vs = gives (Parts (row (adt_parts (slice_get defs n) v vs)))
  result_of t operation.List vs = gives (Ref None)
  result_of t operation.NewArray vs = new_array (item_of t) (number_of (operand 0 vs))
  result_of t (operation.Slice q f g) vs = slice_of q f g vs
  result_of t operation.Character vs = gives_number (with_text (character_in (text_of (operand 0 vs)) (number_of (operand 1 vs))))

-- ---- conditions

-- A condition holds where its int isn't 0.
abbrev pub holds : Value → Bool
holds v = operators.holds (number_of v)

-- Whether the left operand of `&&` or `||` decides, so that the right one isn't evaluated: `&&` where it doesn't hold, `||` where it does.
abbrev pub decides : Connective → Value → Bool
decides connective.And v = other_than (holds v)
decides connective.Or v = holds v

-- The 1 or 0 of a condition.
abbrev pub truth_of : Value → Value
truth_of v = Num (truth (holds v))
