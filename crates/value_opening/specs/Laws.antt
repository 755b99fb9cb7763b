-- What holds of the data that a machine of a module's object begins with.
use Rattle.std.specs.Prelude.{ℕ, suc, pos, ◌*◌, ◌/◌, ◌%◌, ◌≡◌, ◌<◌, List, [], Some, None, slice_get}
use Rattle.heap_model.specs.Facts.{Named, Chars}
use Rattle.limbo_layout.specs.Adts.{Has}
use Rattle.limbo_typed.specs.Typed as typed
use Rattle.limbo_typed.specs.Sound.{IsSound, Each}
use Rattle.limbo_meaning.specs.Memory as source
use Rattle.limbo_meaning.specs.Program.{globals_of}
use Rattle.limbo_kept.specs.Modules.{AdtsAreLaid, TextsAreWritten}
use Rattle.dis_meaning.specs.Words.{Word, Plain, Refer, Found, blank}
use Rattle.dis_memory.specs.Blocks as block
use Rattle.dis_memory.specs.Operands.{type_of}
use Rattle.dis_objects.specs.Spelled.{AreSpelled}
use Rattle.dis_counts.specs.Opening.{loading, with_items, instance_of}
use Rattle.value_words.specs.Forms.{Instances}
use Rattle.value_words.specs.Facts.{Facts}
use Rattle.value_heaps.specs.Blocks.{IsBlock}
use Rattle.value_frames.specs.Types.{desc}
use Rattle.value_code.specs.Objects.{globals, constants, all_data_of, object_of}
use Rattle.value_opening.specs.Putting.{state}
use Rattle.value_opening.specs.Opening.{data_type, data_texts, Suits, IsOfInt, TextsAreShort, AreOnce, outer}

-- Words of a type as they are made: those at its offsets refer to nothing, and all others are zero.
pub record WordsMade : Type 0 where
  pub refer : (size : ℕ) (offsets : List ℕ) (o : ℕ) → size % 4 ≡ 0 → Has offsets o → o % 4 ≡ 0 → o < size →
      slice_get (blank (desc size offsets)) (o / 4) ≡ Some (Refer None)
  pub zero : (size : ℕ) (offsets : List ℕ) (w : ℕ) → size % 4 ≡ 0 → w < size / 4 → (Has offsets (4 * w) → ⊥) →
      slice_get (blank (desc size offsets)) w ≡ Some (Plain (pos 0))

-- The data of a sound module's code suit, where the numbers in one word are ints.
abbrev pub DataSuit : Type 0
DataSuit =
    (m : typed.Module) → IsSound m → AdtsAreLaid m.adts → TextsAreWritten m → Each IsOfInt (all_data_of m) →
    Each (Suits m) (all_data_of m)

-- Of a sound module whose adts have layouts, whose written texts are of characters, spelled in UTF-8, and no longer than strings may be,
-- whose variables have one initial value each at most, and of which each number in one word is an int: all items of its object are put;
-- behind the instance are the texts, in their order; and wherever it is known of them that they are these texts, the instance stands for
-- that of the module's variables as they begin, and has all constants.
abbrev pub ItemsPut : Type 0
ItemsPut =
    (m : typed.Module) → IsSound m → AdtsAreLaid m.adts → TextsAreWritten m → AreSpelled (object_of m).items → TextsAreShort m →
    AreOnce m.initials → Each IsOfInt (all_data_of m) →
    (type_of (object_of m) 0 ≡ Found (data_type m))
    × (words : List Word)
    × (with_items (object_of m) (loading (instance_of (data_type m)) (record { serial = 0; from = 0 }) []) (object_of m).items
    ≡ Found (state outer words (data_texts m)))
    × ((k : Facts) → k.fact 0 ≡ Some (Named 0) → k.form 0 ≡ Some Instances →
    ((j : ℕ) (t : List ℕ) → slice_get (data_texts m) j ≡ Some t → k.fact (suc j) ≡ Some (Chars t)) →
    IsBlock m.adts (globals m) (constants m) k 0 (source.Instance (globals_of m)) (block.Instance 0 words))
