-- Words of memory (Dis Virtual Machine Specification, "Data representations").
use Rattle.std.specs.Prelude.{ℕ, zero, suc, ℤ, pos, negsuc, ◌/◌, ◌%◌, ◌==◌, Bool, true, false, List}
use Rattle.std.specs.Prelude.{[], ◌∷◌, Option, Some, None, slice_get, slice_set, if◌then◌else◌}
use Rattle.dis_file.specs.declared.types.TypeDesc.{TypeDesc}
use Rattle.dis_file.specs.References.{marks}

-- Where words stand: in a block, which has a serial, or in a frame of the process, which has one of its own.
pub data Place : Type 0 where
  InBlock : (serial : ℕ) → Place
  InFrame : (serial : ℕ) → Place

-- A word: a plain one, which has 32 bits and is read as a signed number; a reference, to a block or to nothing; or the address of a
-- byte, which stands in a plain word.
pub data Word : Type 0 where
  Plain : ℤ → Word
  Refer : Option ℕ → Word
  Address : Place → (at : ℤ) → Word

-- What an access comes to: a value, the number of a fault, or the text of an exception that is raised instead.
pub data Access (T : Type 0) : Type 0 where
  Found : T → Access T
  Wrong : (number : ℕ) → Access T
  Raises : (text : List ℕ) → Access T

infixl 10 ◌>>=◌
-- Goes on with what was found; the first fault or raise stays.
abbrev pub ◌>>=◌ : {S T : Type 0} → Access S → (S → Access T) → Access T
Found s >>= f = f s
Wrong n >>= f = Wrong n
Raises text >>= f = Raises text

-- The faults of an object: an operand, a type or a table outside the object, or a word of another kind than is asked for; a place in
-- the code that isn't there; an address of a block or frame that isn't there.
abbrev pub type_check : ℕ
type_check = 110

abbrev pub bad_jump : ℕ
bad_jump = 111

abbrev pub dead_address : ℕ
dead_address = 112

-- What is there, or else this fault.
abbrev pub or_wrong : {T : Type 0} → ℕ → Option T → Access T
or_wrong number None = Wrong number
or_wrong number (Some t) = Found t

-- A number that isn't below 0.
abbrev pub at_least_zero : ℤ → Access ℕ
at_least_zero (pos n) = Found n
at_least_zero (negsuc n) = Wrong type_check

-- The number of the word at a byte: a byte inside a word is none.
abbrev pub word_number : ℤ → Access ℕ
word_number (pos n) = if n % 4 == 0 then Found (n / 4) else Wrong type_check
word_number (negsuc n) = Wrong type_check

-- The word at a byte.
abbrev pub word_at : List Word → ℤ → Access Word
word_at words at = word_number at >>= λ k. or_wrong type_check (slice_get words k)

-- Where a number is asked for: a plain word's, and 0 where an address stands in it.
abbrev pub number_in : Word → Access ℤ
number_in (Plain n) = Found n
number_in (Address place at) = Found (pos 0)
number_in (Refer r) = Wrong type_check

-- Where a plain word is asked for, its content.
abbrev pub plain : Word → Access Word
plain (Refer r) = Wrong type_check
plain w = Found w

-- Where a reference is asked for.
abbrev pub reference : Word → Access (Option ℕ)
reference (Refer r) = Found r
reference _ = Wrong type_check

-- A word takes another of its own kind alone: a plain one a number or an address, a reference a reference.
abbrev pub fits : (old new : Word) → Bool
fits (Refer r) (Refer s) = true
fits (Refer r) _ = false
fits _ (Refer s) = false
fits _ _ = true

-- Words with the one of this number replaced.
abbrev pub replaced : List Word → ℕ → Word → Access (List Word)
replaced words k new =
    or_wrong type_check (slice_get words k) >>= λ old.
    if fits old new then Found (slice_set words k new) else Wrong type_check

-- Words with the one at a byte replaced.
abbrev pub stored : List Word → ℤ → Word → Access (List Word)
stored words at new = word_number at >>= λ k. replaced words k new

-- A word of a type as it is made: a number is 0, a reference names nothing.
abbrev pub blank_word : TypeDesc → ℕ → Word
blank_word desc k = if marks desc.map k then Refer None else Plain (pos 0)

-- The words of a type, from the one of this number on.
abbrev pub blanks : TypeDesc → (from count : ℕ) → List Word
blanks desc from zero = []
blanks desc from (suc n) = blank_word desc from ∷ blanks desc (suc from) n

abbrev pub blank : TypeDesc → List Word
blank desc = blanks desc 0 (desc.size / 4)
