-- When the words of a frame change, or blocks of its own, and what it stands for then.
use Rattle.std.specs.Prelude.{ℕ, ◌+◌, ◌*◌, ◌≡◌, ◌<◌, ◌≤◌, ◌⊎◌, List, [], ◌∷◌, length, Some, slice_get}
use Rattle.heap_model.specs.Heap.{Heap, at}
use Rattle.heap_model.specs.Facts.{Free}
use Rattle.limbo_types.specs.Types.{Ty}
use Rattle.limbo_layout.specs.Adts.{Def, Has}
use Rattle.limbo_layout.specs.Layout.{nothing}
use Rattle.limbo_layout.specs.Laying.{rooms_of}
use Rattle.limbo_meaning.specs.Values.{Value}
use Rattle.core_code.specs.Rooms.{rooms_in}
use Rattle.core_code.specs.Slots as core
use Rattle.core_typing.specs.Held as held
use Rattle.dis_meaning.specs.Words.{Word}
use Rattle.dis_memory.specs.Blocks.{Block}
use Rattle.value_words.specs.Facts.{Facts, Grows}
use Rattle.value_words.specs.Stands.{AllStand}
use Rattle.value_heaps.specs.Blocks.{IsWithin}
use Rattle.value_frames.specs.Frames.{linkage_bytes, row_of, slots_place, number_place, reference_place, spare_place, frame_bytes}
use Rattle.value_frames.specs.Frames.{frame_references}
use Rattle.value_frames.specs.Types.{AreOf}
use Rattle.value_frames.specs.Standing.{Single, SlotStands, WordsAre}

-- All words but those of these bytes are as they were.
pub record ElseAsWas (words others : List Word) (at size : ℕ) : Type 0 where
  pub each : (w : ℕ) → (IsWithin at size w → ⊥) → slice_get others w ≡ slice_get words w

-- A block is as it was, and still stands for nothing.
abbrev pub IsKept : (k' : Facts) (x x' : Heap Block) → ℕ → Type 0
IsKept k' x x' b = Free k' b × (at x' b ≡ at x b)

-- What a frame stands for where one slot has something else now, which has these blocks as its own. It may have been busy, and isn't now.
pub record OneSlotChanged (defs : List Def) (k k' : Facts) (x x' : Heap Block) (frame : ℕ) (busy : List ℕ) (types : List Ty)
    (known : held.Slots) (vs : List Value) (slots : core.Slots) (words others : List Word)
    (are : WordsAre defs k x frame busy types known vs slots words) (s : ℕ) (h : held.Held) (l : core.Slot) (own : List ℕ) : Type 0 where
  pub after : WordsAre defs k' x' frame (held.without s busy) types (held.put known s h) vs (core.put slots s l) others
  pub here : after.own s ≡ own
  pub elsewhere : (r : ℕ) → (r ≡ s → ⊥) → after.own r ≡ are.own r

-- A slot that isn't busy has what it had, in the same words, with the same blocks as its own, which are as they were.
pub record StaysSo (defs : List Def) (k k' : Facts) (x x' : Heap Block) (frame : ℕ) (busy : List ℕ) (types : List Ty)
    (known : held.Slots) (vs : List Value) (slots : core.Slots) (words others : List Word)
    (are : WordsAre defs k x frame busy types known vs slots words) (s : ℕ) (h : held.Held) (l : core.Slot) (own : List ℕ) : Type 0 where
  pub idle : Has busy s → ⊥
  pub known_so : slice_get known s ≡ Some h
  pub holds_so : slice_get slots s ≡ Some l
  pub words_so : (w : ℕ) → IsWithin (number_place defs types s) 8 w → slice_get others w ≡ slice_get words w
  pub own_so : own ≡ are.own s
  pub kept : (b : ℕ) → Has own b → IsKept k' x x' b

pub record SlotsChange : Type 0 where
  -- a slot stands as it stood while its 8 bytes and its blocks are as they were, whatever else changes
  pub stays : (defs : List Def) (k k' : Facts) (x x' : Heap Block) (frame : ℕ) (words others : List Word) (n : ℕ) (h : held.Held)
      (l : core.Slot) (own : List ℕ) → SlotStands defs k x frame words n (n + 4) h l own → Grows k k' →
      ((w : ℕ) → IsWithin n 8 w → slice_get others w ≡ slice_get words w) → ((b : ℕ) → Has own b → IsKept k' x x' b) →
      SlotStands defs k' x' frame others n (n + 4) h l own
  -- one slot has something else, in its words or in its blocks, and all else stands as it stood: no other slot has one of its blocks, and
  -- theirs are as they were
  pub slot : (defs : List Def) (k k' : Facts) (x x' : Heap Block) (frame : ℕ) (busy : List ℕ) (types : List Ty) (known : held.Slots)
      (vs : List Value) (slots : core.Slots) (words others : List Word) (s : ℕ) (h : held.Held) (l : core.Slot) (own : List ℕ)
      (are : WordsAre defs k x frame busy types known vs slots words) → Grows k k' → s < length slots →
      ElseAsWas words others (number_place defs types s) 8 →
      AreOf (frame_bytes defs types (length slots)) (frame_references defs types (length slots)) others →
      SlotStands defs k' x' frame others (number_place defs types s) (reference_place defs types s) h l own → Single own →
      ((r b : ℕ) → (r ≡ s → ⊥) → Has (are.own r) b → (Has own b → ⊥) × IsKept k' x x' b) →
      OneSlotChanged defs k k' x x' frame busy types known vs slots words others are s h l own
  -- a slot that has no block as its own comes to be busy: its words may be any, and all else stands as it stood
  pub leaves : (defs : List Def) (k k' : Facts) (x x' : Heap Block) (frame : ℕ) (busy : List ℕ) (types : List Ty) (known : held.Slots)
      (vs : List Value) (slots : core.Slots) (words others : List Word) (s : ℕ)
      (are : WordsAre defs k x frame busy types known vs slots words) → Grows k k' → are.own s ≡ [] →
      ElseAsWas words others (number_place defs types s) 8 →
      AreOf (frame_bytes defs types (length slots)) (frame_references defs types (length slots)) others →
      ((r b : ℕ) → Has (are.own r) b → IsKept k' x x' b) →
      (after : WordsAre defs k' x' frame (s ∷ busy) types known vs slots others) × (after.own ≡ are.own)
  -- the words of a busy slot change again
  pub within : (defs : List Def) (k k' : Facts) (x x' : Heap Block) (frame : ℕ) (busy : List ℕ) (types : List Ty) (known : held.Slots)
      (vs : List Value) (slots : core.Slots) (words others : List Word) (s : ℕ)
      (are : WordsAre defs k x frame busy types known vs slots words) → Has busy s → Grows k k' →
      ElseAsWas words others (number_place defs types s) 8 →
      AreOf (frame_bytes defs types (length slots)) (frame_references defs types (length slots)) others →
      ((r b : ℕ) → Has (are.own r) b → IsKept k' x x' b) →
      (after : WordsAre defs k' x' frame busy types known vs slots others) × (after.own ≡ are.own)
  -- slots have something else, any of them, and others come to be busy: each that isn't busy then has what it had, or stands for what it
  -- has now
  pub several : (defs : List Def) (k k' : Facts) (x x' : Heap Block) (frame : ℕ) (busy then : List ℕ) (types : List Ty)
      (known changed : held.Slots) (vs : List Value) (slots other : core.Slots) (words others : List Word) (own : ℕ → List ℕ)
      (are : WordsAre defs k x frame busy types known vs slots words) → Grows k k' → length other ≡ length slots →
      length changed ≡ length slots → ElseAsWas words others (slots_place defs types) (8 * length slots) →
      AreOf (frame_bytes defs types (length slots)) (frame_references defs types (length slots)) others →
      ((s : ℕ) → length slots ≤ s → own s ≡ []) → ((s : ℕ) → Has then s → own s ≡ []) →
      ((s : ℕ) (h : held.Held) (l : core.Slot) → (Has then s → ⊥) → slice_get changed s ≡ Some h → slice_get other s ≡ Some l →
      StaysSo defs k k' x x' frame busy types known vs slots words others are s h l (own s)
      ⊎ SlotStands defs k' x' frame others (number_place defs types s) (reference_place defs types s) h l (own s)) →
      ((s : ℕ) → Single (own s)) → ((s r b : ℕ) → Has (own s) b → Has (own r) b → s ≡ r) →
      (after : WordsAre defs k' x' frame then types changed vs other others) × (after.own ≡ own)
  -- the variables are others, and all else stands as it stood
  pub variables : (defs : List Def) (k : Facts) (x : Heap Block) (frame : ℕ) (busy : List ℕ) (types : List Ty) (known : held.Slots)
      (vs us : List Value) (slots : core.Slots) (words others : List Word) →
      (are : WordsAre defs k x frame busy types known vs slots words) →
      ElseAsWas words others linkage_bytes (row_of defs types).size →
      AreOf (frame_bytes defs types (length slots)) (frame_references defs types (length slots)) others →
      AllStand defs k others linkage_bytes nothing types (rooms_of (rooms_in defs) types) us →
      (after : WordsAre defs k x frame busy types known us slots others) × (after.own ≡ are.own)
  -- what stands in the linkage is nobody's, nor what the spare word refers to
  pub linkage : (defs : List Def) (k : Facts) (x : Heap Block) (frame : ℕ) (busy : List ℕ) (types : List Ty) (known : held.Slots)
      (vs : List Value) (slots : core.Slots) (words others : List Word) → (are : WordsAre defs k x frame busy types known vs slots words) →
      ElseAsWas words others 0 linkage_bytes →
      AreOf (frame_bytes defs types (length slots)) (frame_references defs types (length slots)) others →
      (after : WordsAre defs k x frame busy types known vs slots others) × (after.own ≡ are.own)
  pub spare : (defs : List Def) (k : Facts) (x : Heap Block) (frame : ℕ) (busy : List ℕ) (types : List Ty) (known : held.Slots)
      (vs : List Value) (slots : core.Slots) (words others : List Word) → (are : WordsAre defs k x frame busy types known vs slots words) →
      ElseAsWas words others (spare_place defs types) 4 →
      AreOf (frame_bytes defs types (length slots)) (frame_references defs types (length slots)) others →
      (after : WordsAre defs k x frame busy types known vs slots others) × (after.own ≡ are.own)
