-- How a process ends: all that it has and holds goes in that step, and nothing else is changed.
use Rattle.std.specs.Prelude.{ℕ, ◌≡◌, [], Some, slice_get}
use Rattle.styx_msg.specs.declared.message.Rmsg.{Rmsg}
use Rattle.process_model.specs.Process.{Ends, Ready, Gone}
use Rattle.process_model.specs.Naming.{names, total}
use Rattle.process_model.specs.Source.{Steps}
use Rattle.heap_model.specs.Heap.{stays}
use Rattle.system_model.specs.Ending.{Ending, Ended}
use Rattle.limbo_meaning.specs.Memory.{inside}
use Rattle.limbo_meaning.specs.Program.{Program}
use Rattle.limbo_meaning.specs.Process.{Shared, Process}
use Rattle.limbo_meaning.specs.Step.{step, answer}
use Rattle.limbo_meaning.specs.Rules.{rules, naming}
use Rattle.limbo_meaning.specs.Runs.{Meaning}

-- Process i is gone, which names nothing, and of the heap there is left what the others keep.
pub record LeavesToOthers (c e : Meaning) (i : ℕ) : Type 0 where
  pub gone : slice_get e.processes i ≡ Some Gone
  pub heap : e.world.heap ≡ stays inside (total naming e.processes) c.world.heap
  pub outside : e.world.outside ≡ c.world.outside

pub record EndsLetGo : Type 0 where
  -- the step itself changes nothing, be it an end or a break
  pub nothing : (limit : ℕ) (program : Program) (w v : Shared) (p : Process) (how : Ending) → step limit program w p ≡ Ends v how → v ≡ w
  -- so it only lets go what the process had
  pub all : (limit : ℕ) (program : Program) (c e : Meaning) (i : ℕ) (p : Process) (v : Shared) (how : Ending) →
      slice_get c.processes i ≡ Some (Ready p) → step limit program c.world p ≡ Ends v how → Steps (rules limit program) naming c i e →
      LeavesToOthers c e i
  pub names : (n : ℕ) → names naming Gone n ≡ 0
  -- it ends only as its first function returns
  pub ended : (limit : ℕ) (program : Program) (w v : Shared) (p : Process) → step limit program w p ≡ Ends v Ended → p.below ≡ []
  -- and no reply ends it
  pub at_reply : (a : Rmsg) (w v : Shared) (p : Process) (how : Ending) → answer a w p ≡ Ends v how → ⊥
