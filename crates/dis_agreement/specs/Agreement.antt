-- When a state of the machine of numbers and one of the machine with memory agree. Frames, words and processes are of the same types
-- in both, so these are just equal.
use Rattle.std.specs.Prelude.{ℕ, ◌≡◌, List, [], ◌∷◌, Option, Some, None, slice_get}
use Rattle.process_model.specs.Process.{Went, Parks, Asks, Ends}
use Rattle.heap_model.specs.Heap.{Heap}
use Rattle.system_model.specs.Ending.{Faulted}
use Rattle.dis_meaning.specs.Words.{Word}
use Rattle.dis_meaning.specs.World as today
use Rattle.dis_meaning.specs.Process as today_process
use Rattle.dis_meaning.specs.Process.{Process, Printing}
use Rattle.dis_memory.specs.Blocks.{Block, World}
use Rattle.dis_memory.specs.Process.{Does}
use Rattle.dis_memory.specs.Sound.{NothingDangles}
use Rattle.dis_counts.specs.Alike.{block_of}

-- ---- states

-- A block is the same, or it has gone.
abbrev pub SameOrGone : today.Content → Option Block → Type 0
SameOrGone c None = Unit {0}
SameOrGone c (Some b) = b ≡ block_of c

-- The blocks of both, serial by serial.
abbrev pub SameBlocks : List today.Content → Heap Block → Type 0
SameBlocks [] [] = Unit {0}
SameBlocks (c ∷ cs) (o ∷ os) = SameOrGone c o × SameBlocks cs os
SameBlocks cs os = ⊥

-- There is one instance, the block of serial 0.
abbrev pub OneInstance : List today.Content → Type 0
OneInstance cs = (n object : ℕ) (words : List Word) → slice_get cs n ≡ Some (today.Instance object words) → n ≡ 0

-- What processes share is the same: files and links, how many frames were made, and blocks, of which the machine with memory may have let
-- some go.
pub record WorldsAgree (x : today.World) (y : World) : Type 0 where
  pub outside : y.outside.outside ≡ x.outside
  pub frames : y.outside.frames ≡ x.frames
  pub blocks : SameBlocks x.blocks y.heap
  pub instance : OneInstance x.blocks

-- A frame that waits for the reply to a print runs in that instance.
abbrev pub WaitsInside : (instance : ℕ) → Option Printing → Type 0
WaitsInside instance None = Unit {0}
WaitsInside instance (Some printing) = instance ≡ 0

-- For a process, which is the same in both: what its words refer to hasn't gone, nor what blocks refer to.
pub record Agrees (x : today.World) (y : World) (p : Process) : Type 0 where
  pub worlds : WorldsAgree x y
  pub there : NothingDangles y p
  pub waits : WaitsInside p.frame.instance p.printing

-- ---- effects

-- What a process does is right where it isn't a fault: it goes on, waits, asks, ends, or breaks by an exception.
abbrev pub IsRight : today_process.Does → Type 0
IsRight (Ends x (Faulted number pc)) = ⊥
IsRight does = Unit {0}

-- The same was done, by the same process with the same request or the same end, and what is left agrees again.
abbrev pub SameDone : today_process.Does → Does → Type 0
SameDone (Went x p) (Went y q) = (q ≡ p) × Agrees x y q
SameDone (Parks x bs p) (Parks y cs q) = (cs ≡ bs) × (q ≡ p) × Agrees x y q
SameDone (Asks x request p) (Asks y asked q) = (asked ≡ request) × (q ≡ p) × Agrees x y q
SameDone (Ends x how) (Ends y other) = (other ≡ how) × WorldsAgree x y
SameDone did does = ⊥
