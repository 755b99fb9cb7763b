-- What holds of every instruction.
use Rattle.std.specs.Prelude.{ℕ, ◌≡◌, ◌≤◌, ◌<◌, ◌⊎◌, List, [], ◌∷◌, length, Some, None}
use Rattle.process_model.specs.Process.{Went, Parks, Polls, Spawns, Asks, Ends}
use Rattle.heap_model.specs.Heap.{at}
use Rattle.dis_file.specs.declared.object.Object.{Object}
use Rattle.system_model.specs.Ending.{Broken, Faulted}
use Rattle.dis_meaning.specs.Words.{InBlock, InFrame, Word, Plain, Refer, Address}
use Rattle.dis_meaning.specs.Process.{Frame, Process}
use Rattle.dis_meaning.specs.Places.{all_frames}
use Rattle.dis_memory.specs.Blocks.{Block, World, words_in}
use Rattle.dis_memory.specs.Process.{Does}
use Rattle.dis_memory.specs.Step.{step}

-- An instruction that faults changes nothing, and the fault tells where it stands.
abbrev pub FaultsChangeNothing : Type 0
FaultsChangeNothing =
    (limit : ℕ) (objects : List Object) (x y : World) (p : Process) (number pc : ℕ)
    → step limit objects x p ≡ Ends y (Faulted number pc) → (y ≡ x) × (pc ≡ p.frame.pc)

-- An instruction that raises what breaks its process changes nothing either.
abbrev pub BreaksChangeNothing : Type 0
BreaksChangeNothing =
    (limit : ℕ) (objects : List Object) (x y : World) (p : Process) (text : List ℕ)
    → step limit objects x p ≡ Ends y (Broken text) → y ≡ x

-- The heap has grown: each block that was there is there, whatever is in it, and no place that was empty has one.
pub record Grown (x y : World) : Type 0 where
  pub longer : length x.heap ≤ length y.heap
  pub there : (n : ℕ) (b : Block) → at x.heap n ≡ Some b → (c : Block) × (at y.heap n ≡ Some c)
  pub empty : (n : ℕ) → n < length x.heap → at x.heap n ≡ None → at y.heap n ≡ None

-- What a process leaves the heap as.
abbrev pub GrownBy : World → Does → Type 0
GrownBy x (Went y q) = Grown x y
GrownBy x (Parks y bs q) = Grown x y
GrownBy x (Polls y bs q r) = Grown x y
GrownBy x (Spawns y child q) = Grown x y
GrownBy x (Asks y m q) = Grown x y
GrownBy x (Ends y how) = Grown x y

-- No instruction lets a block go, and none gives a serial that was given before: what goes, goes behind it.
abbrev pub NothingGoesWithin : Type 0
NothingGoesWithin = (limit : ℕ) (objects : List Object) (x : World) (p : Process) → GrownBy x (step limit objects x p)

-- ---- what a step changes

-- A word leads to a block: it refers to it, or has the address of one of its bytes.
abbrev pub Leads : Word → ℕ → Type 0
Leads (Refer r) n = r ≡ Some n
Leads (Address (InBlock k) at) n = k ≡ n
Leads (Address (InFrame k) at) n = ⊥
Leads (Plain z) n = ⊥

-- One of these words does.
abbrev pub SomeLeads : List Word → ℕ → Type 0
SomeLeads [] n = ⊥
SomeLeads (w ∷ ws) n = Leads w n ⊎ SomeLeads ws n

-- A frame leads to its instance, and where its words lead.
abbrev pub FrameLeads : Frame → ℕ → Type 0
FrameLeads f n = (f.instance ≡ n) ⊎ SomeLeads f.words n

abbrev pub FramesLead : List Frame → ℕ → Type 0
FramesLead [] n = ⊥
FramesLead (f ∷ fs) n = FrameLeads f n ⊎ FramesLead fs n

-- The blocks that a process reaches: those that its frames lead to, and those that blocks which it reaches lead to.
pub data Reaches (x : World) (p : Process) : ℕ → Type 0 where
  own : (n : ℕ) → FramesLead (all_frames p) n → Reaches x p n
  on : (m n : ℕ) (b : Block) → Reaches x p m → at x.heap m ≡ Some b → SomeLeads (words_in b) n → Reaches x p n

-- Of the blocks that were there, all but those that the process reaches are as they were.
abbrev pub ChangesReached : World → Process → World → Type 0
ChangesReached x p y = (n : ℕ) (b : Block) → at x.heap n ≡ Some b → (Reaches x p n → ⊥) → at y.heap n ≡ Some b

abbrev pub ReachedBy : World → Process → Does → Type 0
ReachedBy x p (Went y q) = ChangesReached x p y
ReachedBy x p (Parks y bs q) = ChangesReached x p y
ReachedBy x p (Polls y bs q r) = ChangesReached x p y
ReachedBy x p (Spawns y child q) = ChangesReached x p y
ReachedBy x p (Asks y m q) = ChangesReached x p y
ReachedBy x p (Ends y how) = ChangesReached x p y

-- A process changes what its own words reach, and nothing else.
abbrev pub OnlyReachedChanges : Type 0
OnlyReachedChanges = (limit : ℕ) (objects : List Object) (x : World) (p : Process) → ReachedBy x p (step limit objects x p)
