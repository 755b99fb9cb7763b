-- What a process reaches, and what it leaves alone.
use Rattle.std.specs.Prelude.{ℕ, ◌≡◌, ◌⊎◌, List, Some, slice_get}
use Rattle.process_model.specs.Process.{Went, Parks, Polls, Spawns, Asks, Ends, Ready}
use Rattle.process_model.specs.Machine.{turns}
use Rattle.heap_model.specs.Heap.{at}
use Rattle.dis_file.specs.declared.object.Object.{Object}
use Rattle.dis_meaning.specs.Process.{Process}
use Rattle.dis_memory.specs.Blocks.{World, next_serial}
use Rattle.dis_memory.specs.Laws.{Reaches}
use Rattle.dis_memory.specs.Naming.{naming, count}
use Rattle.dis_memory.specs.Process.{Does}
use Rattle.dis_memory.specs.Rules.{rules}
use Rattle.dis_memory.specs.Sound.{IsThere}
use Rattle.dis_memory.specs.Step.{step}
use Rattle.dis_counts.specs.Counts.{Machine, CountsAreExact}

-- What a process reaches afterwards, the first one reached before, or it made the block.
abbrev pub ReachesNoMore : World → Process → World → Process → Type 0
ReachesNoMore x p y q = (n : ℕ) → Reaches y q n → Reaches x p n ⊎ (n ≡ next_serial x)

abbrev pub ReachesNoMoreBy : World → Process → Does → Type 0
ReachesNoMoreBy x p (Went y q) = ReachesNoMore x p y q
ReachesNoMoreBy x p (Parks y bs q) = ReachesNoMore x p y q
ReachesNoMoreBy x p (Polls y bs q r) = ReachesNoMore x p y q × ReachesNoMore x p y r
ReachesNoMoreBy x p (Spawns y child q) = ReachesNoMore x p y child × ReachesNoMore x p y q
ReachesNoMoreBy x p (Asks y m q) = ReachesNoMore x p y q
ReachesNoMoreBy x p (Ends y how) = Unit {0}

-- No instruction lets a process reach a block that it didn't reach, but for the one that it makes: no address is forged either.
abbrev pub NothingElseIsReached : Type 0
NothingElseIsReached = (limit : ℕ) (objects : List Object) (x : World) (p : Process) → ReachesNoMoreBy x p (step limit objects x p)

-- A block is as it was, and so is its count.
pub record IsAsItWas (s t : Machine) (n : ℕ) : Type 0 where
  pub block : at t.world.heap n ≡ at s.world.heap n
  pub counted : count t.world t.processes n ≡ count s.world s.processes n

-- So is, however many instructions a process goes through, each block that was there and that the process didn't reach before them: none
-- of these goes, and none changes, nor how often it is named.
abbrev pub OnlyReachedCounts : Type 0
OnlyReachedCounts =
    (limit : ℕ) (objects : List Object) (s t : Machine) (i k : ℕ) (p : Process) → CountsAreExact s →
    slice_get s.processes i ≡ Some (Ready p) → turns (rules limit objects) naming i k s ≡ Some t →
    (n : ℕ) → IsThere s.world n → (Reaches s.world p n → ⊥) → IsAsItWas s t n
