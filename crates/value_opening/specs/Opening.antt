-- The items of a module's object, as what they put, and what a machine of the object begins with in the module's data.
use Rattle.std.specs.Prelude.{ℕ, ◌+◌, ◌≡◌, ◌≤◌, List, [], ◌∷◌, ◌++◌, length, map, codes, slice_index_or}
use Rattle.limbo_types.specs.Types as ty
use Rattle.limbo_types.specs.Types.{Ty}
use Rattle.limbo_values.specs.declared.number.Kind.TheVariants as kind
use Rattle.limbo_values.specs.Numbers.{InRange}
use Rattle.limbo_values.specs.Texts.{longest}
use Rattle.limbo_typed.specs.Typed as typed
use Rattle.limbo_typed.specs.Sound.{Each}
use Rattle.limbo_typed.specs.declared.module.Initial.{Initial}
use Rattle.limbo_typed.specs.declared.stmt.Constant.{Constant}
use Rattle.limbo_typed.specs.declared.stmt.Constant.TheVariants as constant
use Rattle.limbo_kept.specs.Operating.{HasRoom}
use Rattle.system_model.specs.World.{opening_world}
use Rattle.dis_file.specs.declared.types.TypeDesc.{TypeDesc}
use Rattle.dis_memory.specs.Blocks.{Outer}
use Rattle.value_heaps.specs.Blocks.{globals_place}
use Rattle.value_frames.specs.Frames.{row_of, within_row}
use Rattle.value_frames.specs.Types.{desc}
use Rattle.value_code.specs.Data.{Datum, Text, Word, Long, Zero}
use Rattle.value_code.specs.Objects.{globals, datum_bytes, data_references, data_place, data_size, all_data_of}
use Rattle.value_opening.specs.Puts.{Put, OfText, OfNumber, texts_of}

module _ (m : typed.Module) where
  -- ---- what is put

  abbrev pub datum_puts : (at : ℕ) → Datum → List Put
  datum_puts at (Text t) = OfText at t ∷ []
  datum_puts at (Word z) = OfNumber at kind.Int z ∷ []
  datum_puts at (Long z) = OfNumber at kind.Big z ∷ []
  datum_puts at (Zero t) = []

  abbrev pub puts_from : (at : ℕ) → List Datum → List Put
  puts_from at [] = []
  puts_from at (d ∷ ds) = datum_puts at d ++ puts_from (at + datum_bytes m d) ds

  abbrev pub initial_put : Ty → (at : ℕ) → Constant → Put
  initial_put ty.Byte at (constant.Number z) = OfNumber at kind.Byte z
  initial_put ty.Big at (constant.Number z) = OfNumber at kind.Big z
  initial_put t at (constant.Number z) = OfNumber at kind.Int z
  initial_put t at (constant.Chars cs) = OfText at cs

  abbrev pub type_of : ℕ → Ty
  type_of n = slice_index_or (globals m) n ty.Nothing

  abbrev pub globals_puts : List Initial → List Put
  globals_puts is =
      map (λ (i : Initial). initial_put (type_of i.global) (globals_place + within_row m.adts (globals m) i.global) i.value) is

  abbrev pub data_puts : List Put
  data_puts = OfText 0 (codes "$Sys") ∷ (globals_puts m.initials ++ puts_from (data_place m) (all_data_of m))

  -- The texts that the data have, in the order in which they are put.
  abbrev pub data_texts : List (List ℕ)
  data_texts = texts_of data_puts

  -- Which words refer.
  abbrev pub data_offsets : List ℕ
  data_offsets =
      0 ∷ 4 ∷ (map (λ o. globals_place + o) (row_of m.adts (globals m)).references ++ data_references m (data_place m) (all_data_of m))

  abbrev pub data_type : TypeDesc
  data_type = desc (data_size m) data_offsets

  -- ---- what is asked of a module

  -- A datum is what its room holds: a number of the range of its kind, the zero of a type that has a layout.
  abbrev pub Suits : Datum → Type 0
  Suits (Text t) = Unit {0}
  Suits (Word z) = InRange kind.Int z
  Suits (Long z) = InRange kind.Big z
  Suits (Zero t) = HasRoom m.adts t

-- A number in one word is an int. Code has those of constants, which are ints or bytes, and the lengths of arrays that aren't written, each
-- of which is one more than the greatest index that is named, so that it may be none.
abbrev pub IsOfInt : Datum → Type 0
IsOfInt (Word z) = InRange kind.Int z
IsOfInt d = Unit {0}

-- No text that the data have is longer than strings may be.
abbrev pub TextsAreShort : typed.Module → Type 0
TextsAreShort m = Each (λ (t : List ℕ). length t ≤ longest) (data_texts m)

-- No variable has two initial values.
abbrev pub AreOnce : List Initial → Type 0
AreOnce [] = Unit {0}
AreOnce (i ∷ is) = Each (λ (j : Initial). i.global ≡ j.global → ⊥) is × AreOnce is

-- The world that is outside when a machine begins.
abbrev pub outer : Outer
outer = record { frames = 1; outside = opening_world }
