-- What the code has in the module's data, and which types it names.
use Rattle.std.specs.Prelude.{ℕ, ℤ, pos, negsuc, ◌&&◌, Bool, List, [], ◌∷◌, int_le, int_lt, if◌then◌else◌}
use Rattle.limbo_types.specs.Types.{Ty}
use Rattle.limbo_typed.specs.declared.print.Piece.{Piece}
use Rattle.limbo_layout.specs.Adts.{Def}
use Rattle.limbo_layout.specs.Layout.{Room, reference, number}
use Rattle.dis_isa.specs.declared.inst.Operand as isa
use Rattle.dis_isa.specs.declared.inst.Operand.TheVariants as operand
use Rattle.value_frames.specs.Frames.{room_for}

-- A text, a number in one word or two, or the zero of a type, each at a multiple of 8.
pub data Datum : Type 0 where
  Text : List ℕ → Datum
  Word : ℤ → Datum
  Long : ℤ → Datum
  Zero : Ty → Datum

-- The module's data begin with the path of Sys and a word that refers to nothing, for good; from 16 on come the module's variables.
abbrev pub path_word : isa.Operand
path_word = operand.Mp (pos 0)

abbrev pub nil_word : isa.Operand
nil_word = operand.Mp (pos 4)

module _ (defs : List Def) where
  abbrev pub datum_room : Datum → Room
  datum_room (Text t) = reference
  datum_room (Word z) = number 4
  datum_room (Long z) = number 8
  datum_room (Zero t) = room_for defs t

-- A source is an immediate of 30 bits.
abbrev pub fits_source : ℤ → Bool
fits_source n = int_le (negsuc 536870911) n && int_le n (pos 536870911)

-- Indices in rising order, each once: one comes in front of the first that is larger, unless it is there.
abbrev pub with_index : ℤ → List ℤ → List ℤ
with_index z [] = z ∷ []
with_index z (y ∷ ys) = if int_lt z y then z ∷ y ∷ ys else if int_lt y z then y ∷ with_index z ys else y ∷ ys

abbrev pub sorted : List ℤ → List ℤ
sorted [] = []
sorted (z ∷ zs) = with_index z (sorted zs)

-- What code names among the object's types: that of a value as an element; that of a record for one, in whole words; that of values in a
-- row up to the last word that refers; the frame of a print; a region of so many slots, and the record that keeps one in a loop's chain.
pub data Named : Type 0 where
  OfValue : Ty → Named
  OfRecord : Ty → Named
  OfFront : List Ty → Named
  PrintFrame : List Piece → Named
  OfRegion : (slots : ℕ) → Named
  OfTurn : (slots : ℕ) → Named
