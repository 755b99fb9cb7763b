-- Types of the machine that are made for frames and for what they have as their own (dis(6), "Type section"), and the words that they make.
use Rattle.std.specs.Prelude.{ℕ, ◌+◌, ◌*◌, ◌/◌, ◌≡◌, List, map, length, Option, Some, slice_get}
use Rattle.std.specs.List.{range_with_len}
use Rattle.limbo_layout.specs.Adts.{Has}
use Rattle.limbo_layout.specs.Layout.{is_in}
use Rattle.dis_file.specs.declared.types.TypeDesc.{TypeDesc}
use Rattle.dis_meaning.specs.Words.{Word, Refer}
use Rattle.value_words.specs.Contents.{AreInRange}
use Rattle.value_heaps.specs.Types.{map_bytes}

-- So many bytes, of which words refer at these offsets.
abbrev pub desc : (size : ℕ) → (offsets : List ℕ) → TypeDesc
desc size os =
    let words = map (λ w. is_in (4 * w) os) (range_with_len 0 ((size + 3) / 4)) in
    record { size = size; map = map_bytes words }

-- Words as such a type makes them, whatever was stored in them since: so many, which refer at these offsets and nowhere else, and whose
-- numbers have 32 bits.
pub record AreOf (size : ℕ) (offsets : List ℕ) (words : List Word) : Type 0 where
  pub many : length words ≡ size / 4
  pub ranged : AreInRange words
  pub refer : (o : ℕ) → Has offsets o → (r : Option ℕ) × (slice_get words (o / 4) ≡ Some (Refer r))
  pub only : (w : ℕ) (r : Option ℕ) → slice_get words w ≡ Some (Refer r) → Has offsets (4 * w)
