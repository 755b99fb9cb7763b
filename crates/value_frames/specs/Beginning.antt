-- A frame as the machine makes it stands for empty slots and zero variables.
use Rattle.std.specs.Prelude.{ℕ, ◌+◌, ◌*◌, ◌/◌, ◌%◌, ◌≡◌, ◌<◌, ◌≤◌, false, List, [], map, replicate}
use Rattle.heap_model.specs.Heap.{Heap}
use Rattle.limbo_types.specs.Types.{Ty}
use Rattle.limbo_layout.specs.Adts.{Def, Has}
use Rattle.limbo_layout.specs.Layout.{AllLaid, is_in}
use Rattle.limbo_layout.specs.Laying.{rooms_of}
use Rattle.limbo_meaning.specs.Values.{zero_of}
use Rattle.core_code.specs.Rooms.{rooms_in}
use Rattle.core_code.specs.Slots as core
use Rattle.core_typing.specs.Held as held
use Rattle.dis_file.specs.References as file
use Rattle.dis_meaning.specs.Words.{blank}
use Rattle.dis_memory.specs.Blocks.{Block}
use Rattle.value_words.specs.Facts.{Facts}
use Rattle.value_frames.specs.Frames.{frame_bytes, frame_references}
use Rattle.value_frames.specs.Types.{desc, AreOf}
use Rattle.value_frames.specs.Standing.{WordsAre}

pub record FramesBegin : Type 0 where
  -- the map of a type has as references the words at its offsets, and none past its size
  pub marks : (size : ℕ) (offsets : List ℕ) (w : ℕ) → w < (size + 3) / 4 → file.marks (desc size offsets).map w ≡ is_in (4 * w) offsets
  pub past : (size : ℕ) (offsets : List ℕ) (w : ℕ) → (size + 3) / 4 ≤ w → file.marks (desc size offsets).map w ≡ false
  -- words as they are made are of their type
  pub kind : (size : ℕ) (offsets : List ℕ) → size % 4 ≡ 0 → ((o : ℕ) → Has offsets o → (o % 4 ≡ 0) × (o < size)) →
      AreOf size offsets (blank (desc size offsets))
  -- a frame with so many slots, and its variables are zero
  pub begins : (defs : List Def) (k : Facts) (x : Heap Block) (frame : ℕ) (types : List Ty) (n : ℕ) →
      AllLaid defs types (rooms_of (rooms_in defs) types) →
      (are : WordsAre defs k x frame [] types (replicate n held.empty) (map (zero_of defs) types) (replicate n core.empty)
      (blank (desc (frame_bytes defs types n) (frame_references defs types n)))) × ((s : ℕ) → are.own s ≡ [])
