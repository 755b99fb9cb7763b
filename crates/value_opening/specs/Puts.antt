-- What items of an object's data put: a text, or a number of a kind, at a byte of the data.
use Rattle.std.specs.Prelude.{ℕ, ℤ, suc, ◌*◌, ◌/◌, ◌%◌, ◌≡◌, ◌<◌, List, [], ◌∷◌, ◌++◌, drop, encode_utf8_all}
use Rattle.std.specs.Int.{to_be_bytes, cast_unsigned, w32}
use Rattle.std.specs.Str.{IsUtf8}
use Rattle.limbo_layout.specs.Adts.{Has}
use Rattle.limbo_values.specs.declared.number.Kind.{Kind}
use Rattle.limbo_values.specs.declared.number.Kind.TheVariants.{Byte, Int, Big}
use Rattle.limbo_values.specs.Numbers.{InRange}
use Rattle.dis_file.specs.declared.object.Item.{Item}
use Rattle.dis_objects.specs.Objects.{string_item, word_item, long_item}
use Rattle.value_moves.specs.Changing.{bytes_in}

pub data Put : Type 0 where
  OfText : (at : ℕ) → List ℕ → Put
  OfNumber : (at : ℕ) → Kind → ℤ → Put

-- A byte is the last of an int's four.
abbrev pub byte_item : (offset : ℕ) → ℤ → Item
byte_item offset z = record { kind = 1; count = 1; offset = offset; content = drop 3 (to_be_bytes w32 (cast_unsigned w32 z)) }

abbrev pub number_item : ℕ → Kind → ℤ → Item
number_item at Byte z = byte_item at z
number_item at Int z = word_item at z
number_item at Big z = long_item at z

abbrev pub item_of : Put → Item
item_of (OfText at t) = string_item at t
item_of (OfNumber at k z) = number_item at k z

-- Where it is put, and in how many bytes.
abbrev pub place : Put → ℕ
place (OfText at t) = at
place (OfNumber at k z) = at

abbrev pub extent : Put → ℕ
extent (OfText at t) = 4
extent (OfNumber at k z) = bytes_in k

-- The texts that are put, each of which becomes a block of its own.
abbrev pub text_of : Put → List (List ℕ)
text_of (OfText at t) = t ∷ []
text_of (OfNumber at k z) = []

abbrev pub texts_of : List Put → List (List ℕ)
texts_of [] = []
texts_of (p ∷ ps) = text_of p ++ texts_of ps

-- ---- what data of so many bytes take, of which words refer at these offsets

module _ (size : ℕ) (references : List ℕ) where
  -- a word that has a number
  abbrev pub IsOfNumber : (word : ℕ) → Type 0
  IsOfNumber w = (w < size / 4) × (Has references (4 * w) → ⊥)

  abbrev pub TakesNumber : (at : ℕ) → Kind → Type 0
  TakesNumber at Byte = IsOfNumber (at / 4)
  TakesNumber at Int = (at % 4 ≡ 0) × IsOfNumber (at / 4)
  TakesNumber at Big = (at % 4 ≡ 0) × IsOfNumber (at / 4) × IsOfNumber (suc (at / 4))

  -- A text is spelled in UTF-8, and a number is in the range of its kind.
  abbrev pub Takes : Put → Type 0
  Takes (OfText at t) = (at % 4 ≡ 0) × Has references at × IsUtf8 (encode_utf8_all t)
  Takes (OfNumber at k z) = TakesNumber at k × InRange k z

  abbrev pub TakesAll : List Put → Type 0
  TakesAll [] = Unit {0}
  TakesAll (p ∷ ps) = Takes p × TakesAll ps
