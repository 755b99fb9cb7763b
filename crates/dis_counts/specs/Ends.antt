-- What is there once a process has ended.
use Rattle.std.specs.Prelude.{ℕ, ◌≡◌, ◌<◌, List, Some, slice_get}
use Rattle.process_model.specs.Process.{Ends, Doing, Ready}
use Rattle.process_model.specs.Naming as naming_of
use Rattle.process_model.specs.Machine.{turns}
use Rattle.heap_model.specs.Heap.{at}
use Rattle.dis_file.specs.declared.object.Object.{Object}
use Rattle.system_model.specs.Ending.{Ending}
use Rattle.system_model.specs.Values.{Value}
use Rattle.dis_meaning.specs.Process.{Process}
use Rattle.dis_memory.specs.Blocks.{Block, World, words_in}
use Rattle.dis_memory.specs.Naming.{naming}
use Rattle.dis_memory.specs.Rules.{rules}
use Rattle.dis_memory.specs.Sound.{IsThere, SomeRefers}
use Rattle.dis_memory.specs.Step.{step}
use Rattle.dis_counts.specs.Counts.{Machine}

-- Another process than this one names a block, or a block that is there refers to it.
pub data NamedElsewhere (s : Machine) (pid n : ℕ) : Type 0 where
  by_process : (j : ℕ) (d : Doing Process Value) → (j ≡ pid → ⊥) → slice_get s.processes j ≡ Some d →
      0 < naming_of.names naming d n → NamedElsewhere s pid n
  by_block : (m : ℕ) (b : Block) → at s.world.heap m ≡ Some b → SomeRefers (words_in b) n → NamedElsewhere s pid n

-- A process that ends, breaks or faults lets go of all that it names: each block that is there behind that instruction is named elsewhere.
abbrev pub EndsLetGo : Type 0
EndsLetGo =
    (limit : ℕ) (objects : List Object) (s t : Machine) (i : ℕ) (p : Process) (x : World) (how : Ending) →
    slice_get s.processes i ≡ Some (Ready p) → step limit objects s.world p ≡ Ends x how →
    turns (rules limit objects) naming i 1 s ≡ Some t →
    (n : ℕ) → IsThere t.world n → NamedElsewhere t i n
