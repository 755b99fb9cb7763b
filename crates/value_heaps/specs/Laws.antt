-- What the law of two heaps asks of contents.
use Rattle.std.specs.Prelude.{ℕ, ◌≡◌, ◌<◌, List}
use Rattle.heap_model.specs.Facts.{Refers, Covers}
use Rattle.limbo_types.specs.Types.{Ty}
use Rattle.limbo_layout.specs.Adts.{Def}
use Rattle.limbo_meaning.specs.Memory.{HeapValue, inside}
use Rattle.dis_memory.specs.Blocks as block
use Rattle.dis_memory.specs.Blocks.{Block}
use Rattle.dis_memory.specs.Naming as machine
use Rattle.value_words.specs.Facts.{Facts, Grows}
use Rattle.value_heaps.specs.Blocks.{Constant, IsBlock}

-- A block stands for its value for good; it names a block for each value that the value names, and no others but texts.
pub record BlocksStand (defs : List Def) (globals : List Ty) (constants : List Constant) : Type 0 where
  pub later : (k k' : Facts) (n : ℕ) (v : HeapValue) (b : Block) → Grows k k' → IsBlock defs globals constants k n v b →
      IsBlock defs globals constants k' n v b
  pub to : (k : Facts) (n : ℕ) (v : HeapValue) (b : Block) (m : ℕ) → IsBlock defs globals constants k n v b → 0 < inside v m →
      (q : ℕ) × (0 < machine.inside b q) × Refers k m q
  pub from : (k : Facts) (n : ℕ) (v : HeapValue) (b : Block) (q : ℕ) → IsBlock defs globals constants k n v b → 0 < machine.inside b q →
      Covers k (λ m. 0 < inside v m) q

-- So it is of each module's.
abbrev pub AllBlocksStand : Type 0
AllBlocksStand = (defs : List Def) (globals : List Ty) (constants : List Constant) → BlocksStand defs globals constants

-- All that it asks: beside that a string's block names none, and that of part of an array the array's block alone.
pub record ContentsAre : Type 0 where
  pub blocks : AllBlocksStand
  pub text_names : (t : List ℕ) (n : ℕ) → machine.inside (block.Text t) n ≡ 0
  pub part_names : (start long array : ℕ) → 0 < machine.inside (block.Part array start long) array
  pub part_only : (start long array n : ℕ) → 0 < machine.inside (block.Part array start long) n → array ≡ n
