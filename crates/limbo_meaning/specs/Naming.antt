-- The names of the heap's values: each is used once.
use Rattle.std.specs.Prelude.{ℕ, ◌≡◌, ◌<◌, ◌≤◌, List, length, None}
use Rattle.process_model.specs.Process.{Went}
use Rattle.process_model.specs.Source.{Turn, Matched}
use Rattle.heap_model.specs.Heap.{Heap, at}
use Rattle.limbo_meaning.specs.Memory.{HeapValue}
use Rattle.limbo_meaning.specs.Program.{Program}
use Rattle.limbo_meaning.specs.Process.{Shared, Process}
use Rattle.limbo_meaning.specs.Step.{step}
use Rattle.limbo_meaning.specs.Rules.{rules, naming}
use Rattle.limbo_meaning.specs.Runs.{Meaning}

-- No place of the heap goes, and no value comes to a place that was left empty: a new value has a name that none had before.
pub record AddsOnly (h h' : Heap HeapValue) : Type 0 where
  pub longer : length h ≤ length h'
  pub empty : (n : ℕ) → n < length h → at h n ≡ None → at h' n ≡ None

pub record NamesUsedOnce : Type 0 where
  pub step : (limit : ℕ) (program : Program) (w v : Shared) (p q : Process) → step limit program w p ≡ Went v q → AddsOnly w.heap v.heap
  pub run : (limit : ℕ) (program : Program) (c e : Meaning) (turns : List Turn) →
      Matched (rules limit program) naming c turns e → AddsOnly c.world.heap e.world.heap
