-- Where references come from: a process makes none but of one that it holds, and of a block that it makes.
use Rattle.std.specs.Prelude.{ℕ, ◌≡◌, ◌⊎◌, List, Some}
use Rattle.process_model.specs.Process.{Went, Parks, Polls, Spawns, Asks, Ends}
use Rattle.heap_model.specs.Heap.{at}
use Rattle.dis_file.specs.declared.object.Object.{Object}
use Rattle.dis_meaning.specs.Places.{all_frames}
use Rattle.dis_meaning.specs.Process.{Process}
use Rattle.dis_memory.specs.Blocks.{Block, World, next_serial, words_in}
use Rattle.dis_memory.specs.Process.{Does}
use Rattle.dis_memory.specs.Step.{step}
use Rattle.dis_memory.specs.Laws.{Reaches}
use Rattle.dis_memory.specs.Sound.{SomeRefers, FramesRefer}

-- A process holds a reference to a block: in one of its frames, or in a block that it reaches.
pub data Holds (x : World) (p : Process) (n : ℕ) : Type 0 where
  in_frames : FramesRefer (all_frames p) n → Holds x p n
  in_block : (m : ℕ) (b : Block) → Reaches x p m → at x.heap m ≡ Some b → SomeRefers (words_in b) n → Holds x p n

-- It held one already, or made the block.
abbrev pub Gets : World → Process → ℕ → Type 0
Gets x p n = Holds x p n ⊎ (n ≡ next_serial x)

-- Each block is as it was, or refers to what the process held or made.
abbrev pub BlocksGet : World → Process → World → Type 0
BlocksGet x p y =
    (m n : ℕ) (b : Block) → at y.heap m ≡ Some b → SomeRefers (words_in b) n → Gets x p n ⊎ (at x.heap m ≡ Some b)

-- So a process leaves the heap, and so its own frames, or those of another, refer.
pub record GetsHeld (x : World) (p : Process) (y : World) (q : Process) : Type 0 where
  pub blocks : BlocksGet x p y
  pub frames : (n : ℕ) → FramesRefer (all_frames q) n → Gets x p n

-- So it is after what a process does.
abbrev pub GetsHeldBy : World → Process → Does → Type 0
GetsHeldBy x p (Went y q) = GetsHeld x p y q
GetsHeldBy x p (Parks y bs q) = GetsHeld x p y q
GetsHeldBy x p (Polls y bs q r) = GetsHeld x p y q × GetsHeld x p y r
GetsHeldBy x p (Spawns y child q) = GetsHeld x p y child × GetsHeld x p y q
GetsHeldBy x p (Asks y m q) = GetsHeld x p y q
GetsHeldBy x p (Ends y how) = BlocksGet x p y

-- No instruction makes a reference of anything else: none of a number, and none of an address.
abbrev pub NoReferenceIsForged : Type 0
NoReferenceIsForged = (limit : ℕ) (objects : List Object) (x : World) (p : Process) → GetsHeldBy x p (step limit objects x p)
