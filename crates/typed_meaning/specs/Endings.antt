-- A process that has ended names nothing.
use Rattle.std.specs.Prelude.{ℕ, ◌≡◌, List, Some, slice_get}
use Rattle.process_model.specs.Process.{Ends, Ready, Gone}
use Rattle.process_model.specs.Naming.{Naming, names}
use Rattle.process_model.specs.Plain.{no_names}
use Rattle.process_model.specs.Source.{Steps}
use Rattle.system_model.specs.Values.{Value}
use Rattle.system_model.specs.Ending.{Ending}
use Rattle.typed_meaning.specs.World.{World}
use Rattle.typed_meaning.specs.Program.{Routine}
use Rattle.typed_meaning.specs.Process.{Process}
use Rattle.typed_meaning.specs.Step.{step}
use Rattle.typed_meaning.specs.Rules.{rules}
use Rattle.typed_meaning.specs.Runs.{Meaning}

-- How processes name the heap: not yet, since all their values are numbers.
abbrev pub naming : Naming World Process Value
naming = no_names

-- Where process i takes a step whose effect is an end, it is gone after that step; and what is gone names no value of the heap.
pub record EndsNameNothing : Type 0 where
  pub gone : (limit : ℕ) (routines : List Routine) (c e : Meaning) (i : ℕ) (p : Process) (v : World) (how : Ending) →
      slice_get c.processes i ≡ Some (Ready p) → step limit routines c.world p ≡ Ends v how →
      Steps (rules limit routines) naming c i e → slice_get e.processes i ≡ Some Gone
  pub nothing : (n : ℕ) → names naming Gone n ≡ 0
