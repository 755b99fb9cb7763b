-- What a process leaves that is over.
use Rattle.std.specs.Prelude.{◌≡◌, ℕ, ◌+◌}
use Rattle.heap_model.specs.Heap.{stays}
use Rattle.ref_heap.specs.Store.{outside}
use Rattle.dis_memory.specs.Blocks.{World}
use Rattle.dis_memory.specs.Naming.{inside, names}
use Rattle.dis_places.specs.declared.memory.Memory.{Memory}
use Rattle.dis_places.specs.declared.process.Process.{Process}
use Rattle.dis_places.specs.View.{view_process, view_world}

-- All that the process held outside of blocks is let go, and memory stands as this world does after the cut behind the process's end.
pub record LetsGo (m : Memory) (p : Process) (x : World) (m' : Memory) : Type 0 where
  pub held : (n : ℕ) → outside m'.heap n + names (view_process p) n ≡ outside m.heap n
  pub heap : (view_world m').heap ≡ stays inside (outside m'.heap) x.heap
  pub outer : (view_world m').outside ≡ x.outside
  pub tables : m'.tables ≡ m.tables
