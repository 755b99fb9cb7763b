-- The blocks that lie in slots, by their serials.
use Rattle.std.specs.Prelude.{◌≡◌, ◌≢◌, ℕ, ◌-◌, ◌<◌, cond, eqb, List, [], ◌∷◌, Option, Some, None}
use Rattle.slab.specs.Slab.{Slab, get, slab_len}
use Rattle.ref_heap.specs.Answers.{most}
use Rattle.ref_heap.specs.Store.{Block, Blocks}
use Rattle.ref_heap.specs.Drops.{number_in}
use Rattle.ref_heap.specs.declared.slots.Slot.{Slot}

abbrev pub block_of : Slot → Block
block_of s = record { kind = s.kind; count = s.count; content = s.words }

-- the first block of these slots that has the serial
abbrev pub kept_in : List (Option Slot) → Blocks
kept_in [] n = None
kept_in (None ∷ rest) n = kept_in rest n
kept_in (Some b ∷ rest) n = cond (eqb b.serial n) (Some (block_of b)) (kept_in rest n)

abbrev pub kept : Slab Slot → Blocks
kept s = kept_in s.slots

-- m' has w at k, and what m has elsewhere
pub record Changed (m m' : Blocks) (k : ℕ) (w : Option Block) : Type 0 where
  pub here : m' k ≡ w
  pub apart : (q : ℕ) → q ≢ k → m' q ≡ m q

-- slot i has the block of this serial
pub record IsAt (s : Slab Slot) (i serial : ℕ) : Type 0 where
  pub block : Slot
  pub is : get s i ≡ Some block
  pub has_serial : block.serial ≡ serial

-- no slot has a block of this serial
pub record Absent (s : Slab Slot) (serial : ℕ) : Type 0 where
  pub none : (i : ℕ) (b : Slot) → get s i ≡ Some b → b.serial ≢ serial

-- no two slots have blocks of one serial, and none is at the greatest number
pub record IsUnique (s : Slab Slot) : Type 0 where
  pub one : (i j : ℕ) (b c : Slot) → get s i ≡ Some b → get s j ≡ Some c → b.serial ≡ c.serial → i ≡ j
  pub small : (i : ℕ) (b : Slot) → get s i ≡ Some b → i < most

-- one name is dropped: its block loses 1 of its count, or goes to the front of the chain
pub record DropsOne (old new : Slab Slot) (serial head next : ℕ) : Type 0 where
  pub less : (b : Block) → kept old serial ≡ Some b → 1 < b.count → Changed (kept old) (kept new) serial (Some (record b { count = b.count - 1 })) × (next ≡ head)
  pub last : (b : Block) → kept old serial ≡ Some b → b.count ≡ 1 → Changed (kept old) (kept new) serial (Some (record b { count = head })) × IsAt new next serial

-- every slot with another serial keeps its block
pub record KeepsOthers (old new : Slab Slot) (serial : ℕ) : Type 0 where
  pub slot : (i : ℕ) (b : Slot) → get old i ≡ Some b → b.serial ≢ serial → get new i ≡ Some b

-- as many blocks as before, with the numbers that they had
pub record KeepsNumbers (old new : Slab Slot) : Type 0 where
  pub same : (s : ℕ) → number_in (kept new s) ≡ number_in (kept old s)
  pub len : slab_len new ≡ slab_len old

-- what lay in a slot is taken out
pub record Takes (old new : Slab Slot) (i : ℕ) (b : Option Slot) : Type 0 where
  pub value : b ≡ get old i
  pub gone : (s : Slot) → b ≡ Some s → (kept old s.serial ≡ Some (block_of s)) × Changed (kept old) (kept new) s.serial None

pub record SameBlocks (old new : Slab Slot) : Type 0 where
  pub same : (q : ℕ) → kept new q ≡ kept old q

-- what was kept at k, whatever it was, is gone, and w is kept at j
pub record Renamed (m m' : Blocks) (k j : ℕ) (w : Block) : Type 0 where
  pub middle : Blocks
  pub gone : Changed m middle k None
  pub placed : Changed middle m' j (Some w)
