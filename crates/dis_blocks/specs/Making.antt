-- A block that is made, and a reference to it that is stored.
use Rattle.std.specs.Prelude.{◌≡◌, ℕ, ◌+◌, Some, Result, Ok, Err}
use Rattle.heap_model.specs.Heap.{stays}
use Rattle.ref_heap.specs.Store.{outside}
use Rattle.dis_meaning.specs.Process.{Process}
use Rattle.dis_meaning.specs.Places.{Spot}
use Rattle.dis_meaning.specs.Words.{Access, Found, Refer, ◌>>=◌}
use Rattle.dis_memory.specs.Blocks.{Block, World, next_serial, with_block}
use Rattle.dis_memory.specs.Naming.{inside, names}
use Rattle.dis_memory.specs.Places as places
use Rattle.dis_memory.specs.Places.{reference_at, store}
use Rattle.dis_places.specs.declared.fault.Halt.{Halt}
use Rattle.dis_places.specs.declared.memory.Memory.{Memory}
use Rattle.dis_places.specs.declared.process.Process as code
use Rattle.dis_places.specs.View.{view_process, view_world}
use Rattle.dis_places.specs.Words.{Halts}
use Rattle.dis_stores.specs.Storing.{rested, settled}

-- The block comes to the end of the heap, and a reference to it takes the place of one that stands there.
abbrev pub made : World → Process → Spot → Block → Access places.Memory
made x p s b = reference_at x p s >>= λ old. rested (store (with_block x b) p s (Refer (Some (next_serial x))))

-- Memory and process stand as after a change to this world and this process, where references were given away for what was made.
pub record SettlesFor (given : ℕ → ℕ) (m : Memory) (p : code.Process) (x : World) (m' : Memory) (p' : code.Process) : Type 0 where
  pub held : (n : ℕ) → outside m'.heap n + names (view_process p) n + given n ≡ outside m.heap n + names (view_process p') n
  pub heap : (view_world m').heap ≡ stays inside (outside m'.heap) x.heap
  pub outer : (view_world m').outside ≡ x.outside
  pub tables : m'.tables ≡ m.tables

-- What the definition finds is done, or there is its fault.
abbrev pub Makes : (given : ℕ → ℕ) → Memory → code.Process → Result (Unit {0}) Halt → Access places.Memory → Memory → code.Process → Type 0
Makes given m p (Ok u) access m' p' =
    (x : World) × (access ≡ Found (places.memory x (settled (view_process p')))) × SettlesFor given m p x m' p'
Makes given m p (Err h) access m' p' = Halts h access

-- Memory and process are as they were, but for how often blocks are held and let go on the way.
pub record Untouched (m : Memory) (p : code.Process) (m' : Memory) (p' : code.Process) : Type 0 where
  pub world : view_world m' ≡ view_world m
  pub held : (n : ℕ) → outside m'.heap n ≡ outside m.heap n
  pub tables : m'.tables ≡ m.tables
  pub process : p' ≡ p
