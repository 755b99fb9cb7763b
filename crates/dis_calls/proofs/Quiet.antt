-- Memory stands as it is, where a process refers to what it referred to.
use Rattle.std.proofs.Common.{◌≡◌, ℕ, ◌+◌, refl, sym, ap}
use Rattle.ref_heap.specs.Store.{IsHeap, outside}
use Rattle.dis_memory.specs.Naming.{names}
use Rattle.dis_places.specs.declared.memory.Memory.{Memory}
use Rattle.dis_places.specs.declared.process.Process.{Process}
use Rattle.dis_places.specs.View.{view_process, view_world}
use Rattle.dis_stores.specs.Storing.{Settles}
use Rattle.dis_results.proofs.Alike.{alike_settles}

pub quiet_settles : (m : Memory) (p p' : Process) → IsHeap m.heap → ((n : ℕ) → names (view_process p') n ≡ names (view_process p) n) →
    Settles m p (view_world m) m p'
quiet_settles m p p' ok same =
    alike_settles m m p p' ok (record { held = λ n. ap (λ k. outside m.heap n + k) (sym (same n)); tables = refl })
