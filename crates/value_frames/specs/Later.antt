-- A frame of the machine stands for what it stood for while the heap changes elsewhere.
use Rattle.std.specs.Prelude.{ℕ, ◌≡◌, List, None, Some}
use Rattle.heap_model.specs.Heap.{Heap, at}
use Rattle.heap_model.specs.Facts.{Free}
use Rattle.heap_model.specs.Worlds.{Changes, Leaves}
use Rattle.process_model.specs.Follows.{Who, Among}
use Rattle.limbo_types.specs.Types.{Ty}
use Rattle.limbo_layout.specs.Adts.{Def, Has}
use Rattle.limbo_meaning.specs.Values.{Value}
use Rattle.core_code.specs.Slots as core
use Rattle.core_typing.specs.Held as held
use Rattle.dis_meaning.specs.Words.{Word}
use Rattle.dis_memory.specs.Blocks.{Block, Record}
use Rattle.value_words.specs.Forms.{OwnedBy}
use Rattle.value_words.specs.Facts.{Facts, Grows}
use Rattle.value_frames.specs.Standing.{WordsAre}
use Rattle.value_frames.specs.Slots.{IsKept}

-- Process j made each of these blocks.
abbrev pub AreMadeBy : (k : Facts) (j : ℕ) → (own : ℕ → List ℕ) → Type 0
AreMadeBy k j own = (s b : ℕ) → Has (own s) b → k.maker b ≡ Some j

pub record FrameLater (defs : List Def) (k : Facts) (x : Heap Block) (frame : ℕ) (busy : List ℕ) (types : List Ty) (known : held.Slots)
    (variables : List Value) (slots : core.Slots) (words : List Word)
    (are : WordsAre defs k x frame busy types known variables slots words) : Type 0 where
  -- what a frame has as its own stands for nothing, is a record, and was made for the frame
  pub owned : (s b : ℕ) → Has (are.own s) b → Free k b × ((inner : List Word) × (at x b ≡ Some (Record inner)))
      × (k.form b ≡ Some (OwnedBy frame))
  -- where more is known, and each block of its own is kept, it stands for the same, with the same blocks
  pub later : (k' : Facts) (x' : Heap Block) → Grows k k' → ((s b : ℕ) → Has (are.own s) b → IsKept k' x x' b) →
      (after : WordsAre defs k' x' frame busy types known variables slots words) × (after.own ≡ are.own)
  -- so it is where other processes step than the one that made these blocks
  pub others : (k' : Facts) (x' : Heap Block) (j : ℕ) (these : Who) → AreMadeBy k j are.own → Changes (Among these) k k' x x' →
      (Among these j → ⊥) →
      (after : WordsAre defs k' x' frame busy types known variables slots words) × (after.own ≡ are.own) × AreMadeBy k' j after.own
  -- and where something leaves that one's own as it is, of which these blocks are still there
  pub left : (k' : Facts) (x' : Heap Block) (j : ℕ) → AreMadeBy k j are.own → Leaves j k k' x x' →
      ((s b : ℕ) → Has (are.own s) b → at x' b ≡ None → ⊥) →
      (after : WordsAre defs k' x' frame busy types known variables slots words) × (after.own ≡ are.own) × AreMadeBy k' j after.own

abbrev pub FramesLater : Type 0
FramesLater = (defs : List Def) (k : Facts) (x : Heap Block) (frame : ℕ) (busy : List ℕ) (types : List Ty) (known : held.Slots)
    (variables : List Value) (slots : core.Slots) (words : List Word)
    (are : WordsAre defs k x frame busy types known variables slots words) →
    FrameLater defs k x frame busy types known variables slots words are
