-- Places: what can be read and written (Limbo Language Reference, expressions).
use Rattle.std.specs.Prelude.{ℕ, ℤ, zero, suc, ◌+◌, Bool, ◌==◌, List, [], ◌∷◌, ◌++◌, length, Option, Some, None, Ok, Err, if◌then◌else◌}
use Rattle.std.specs.Prelude.{slice_set, slice_index_or, nat_lt}
use Rattle.inf_text.specs.Steps.{◌>>=◌}
use Rattle.limbo_types.specs.Types.{Ty}
use Rattle.limbo_layout.specs.Adts.{Def}
use Rattle.limbo_values.specs.Texts.{index_in, character_in, longest}
use Rattle.heap_model.specs.Heap.{at}
use Rattle.system_model.specs.Verbs.{character}
use Rattle.limbo_meaning.specs.Values.{Part, Value, Num, Chars, Parts, Values, NoValues, MoreValues, nothing, first_in, rest_in, parts_of}
use Rattle.limbo_meaning.specs.Values.{number_of, text_of, name_of, part_of, fitted}
use Rattle.limbo_meaning.specs.Memory.{Elements, Record, Instance, Memory, with_variables, with_heap, changed, elements_in, record_in}
use Rattle.limbo_meaning.specs.Memory.{globals_of}
use Rattle.limbo_meaning.specs.Exceptions.{Raising, with_text, dereference_of_nil, too_long}

-- Where a place begins: a variable of the function or of the module, an element of an array, or what a reference names.
pub data Root : Type 0 where
  Local : (number : ℕ) → Root
  Global : (number : ℕ) → Root
  Element : Root
  Target : Root

-- A place but for the values of its operands: the parts that lead to it, from the root on, and whether it is a character of the string
-- that they lead to.
pub record Way : Type 0 where
  pub root : Root
  pub parts : List ℕ
  pub character : Bool

-- A place: the type of what stands there, the way to it, and its operands: of an element the array and its index, of a target the
-- reference, and of a character its index behind these.
pub record Place : Type 0 where
  pub type : Ty
  pub way : Way
  pub operands : List Value

abbrev pub operand : ℕ → List Value → Value
operand n vs = slice_index_or vs n nothing

abbrev pub count_of : Root → ℕ
count_of Element = 2
count_of Target = 1
count_of _ = 0

-- how many operands a way takes
abbrev pub operands_of : Way → ℕ
operands_of w = if w.character then count_of w.root + 1 else count_of w.root

-- ---- parts of values

-- The part to which these numbers lead.
abbrev pub value_part : ℕ → Values → Value
value_part zero vs = first_in vs
value_part (suc n) vs = value_part n (rest_in vs)

abbrev pub part_at : List ℕ → Value → Value
part_at [] v = v
part_at (n ∷ ns) v = part_at ns (value_part n (parts_of v))

-- The values with this one in place of number n.
abbrev pub put_part : ℕ → Value → Values → Values
put_part n v NoValues = NoValues
put_part zero v (MoreValues u us) = MoreValues v us
put_part (suc n) v (MoreValues u us) = MoreValues u (put_part n v us)

abbrev pub with_part : List ℕ → Value → Value → Value
with_part [] v u = v
with_part (n ∷ ns) v u = Parts (put_part n (with_part ns v (value_part n (parts_of u))) (parts_of u))

-- ---- elements and characters

-- An element of an array, by where it stands in the array's contents.
abbrev pub element_of : Option Part → ℤ → Raising (ℕ × ℕ)
element_of None i = Err dereference_of_nil
element_of (Some p) i = with_text (index_in p.long i) >>= λ k. Ok (p.array, p.start + k)

-- What a reference names.
abbrev pub target_of : Option ℕ → Raising ℕ
target_of None = Err dereference_of_nil
target_of (Some n) = Ok n

-- A string with another character at an index, or with one more at its end.
abbrev pub put_character : List ℕ → ℕ → ℕ → List ℕ
put_character s i c = if i == length s then s ++ c ∷ [] else slice_set s i c

abbrev pub not_longer : List ℕ → Raising (List ℕ)
not_longer s = if nat_lt longest (length s) then Err too_long else Ok s

abbrev pub with_character : List ℕ → ℤ → ℤ → Raising Value
with_character s i c =
    with_text (index_in (length s + 1) i) >>= λ k. not_longer (put_character s k (character c)) >>= λ t. Ok (Chars t)

-- ---- what stands where a place begins

module _ (m : Memory) where
  abbrev pub element_value : ℕ × ℕ → Value
  element_value e = slice_index_or (elements_in (at m.heap e.0)) e.1 nothing

  abbrev pub root_value : Root → List Value → Raising Value
  root_value (Local x) vs = Ok (slice_index_or m.variables x nothing)
  root_value (Global x) vs = Ok (slice_index_or (globals_of m) x nothing)
  root_value Element vs = element_of (part_of (operand 0 vs)) (number_of (operand 1 vs)) >>= λ e. Ok (element_value e)
  root_value Target vs = target_of (name_of (operand 0 vs)) >>= λ n. Ok (record_in (at m.heap n))

  abbrev pub element_put : Value → ℕ × ℕ → Memory
  element_put v e = with_heap m (changed m.heap e.0 (Elements (slice_set (elements_in (at m.heap e.0)) e.1 v)))

  abbrev pub root_put : Root → List Value → Value → Raising Memory
  root_put (Local x) vs v = Ok (with_variables m (slice_set m.variables x v))
  root_put (Global x) vs v = Ok (with_heap m (changed m.heap m.instance (Instance (slice_set (globals_of m) x v))))
  root_put Element vs v = element_of (part_of (operand 0 vs)) (number_of (operand 1 vs)) >>= λ e. Ok (element_put v e)
  root_put Target vs v = target_of (name_of (operand 0 vs)) >>= λ n. Ok (with_heap m (changed m.heap n (Record v)))

-- ---- a read and a write of one place

-- The index of a character stands behind the operands of the root.
abbrev pub index_of : Place → ℤ
index_of p = number_of (operand (count_of p.way.root) p.operands)

abbrev pub character_at : List ℕ → ℤ → Raising Value
character_at text i = with_text (character_in text i) >>= λ c. Ok (Num c)

abbrev pub part_read : Place → Value → Raising Value
part_read p v = if p.way.character then character_at (text_of v) (index_of p) else Ok v

-- What stands at a place.
abbrev pub read : Memory → Place → Raising Value
read m p = root_value m p.way.root p.operands >>= λ v. part_read p (part_at p.way.parts v)

module _ (defs : List Def) (m : Memory) where
  abbrev pub new_part : Place → (old new : Value) → Raising Value
  new_part p old v =
      if p.way.character
      then with_character (text_of old) (index_of p) (number_of v)
      else Ok (fitted defs p.type v)

  -- What stands at the root of a place once its part has this value.
  abbrev pub stored_at : Place → (old new : Value) → Raising Value
  stored_at p old v = new_part p (part_at p.way.parts old) v >>= λ u. Ok (with_part p.way.parts u old)

  -- A place has this value from now on, as one of the place's type.
  abbrev pub written : Place → Value → Raising Memory
  written p v =
      root_value m p.way.root p.operands >>= λ old.
      stored_at p old v >>= λ new.
      root_put m p.way.root p.operands new
