-- In a run of a module of the part no process is ever without a rule.
use Rattle.std.specs.Prelude.{ℕ, ◌≡◌, true, List, Some, slice_get}
use Rattle.process_model.specs.Process.{Branch, Waiting}
use Rattle.process_model.specs.Source.{Turn}
use Rattle.limbo_typed.specs.Typed.{Module}
use Rattle.system_model.specs.Values.{Value}
use Rattle.typed_meaning.specs.Process.{Process}
use Rattle.typed_meaning.specs.Runs.{Meaning, MeaningRun}
use Rattle.typed_part.specs.Part.{is_part}

-- A process without a rule would wait with a table of no branches. In a run of a module of the part none ever waits with any.
abbrev pub AlwaysGoing : Type 0
AlwaysGoing =
    (m : Module) → is_part m ≡ true → (init : ℕ) (turns : List Turn) (c : Meaning) → MeaningRun m init turns c
    → (i : ℕ) (branches : List (Branch Value)) (p : Process) → slice_get c.processes i ≡ Some (Waiting branches p) → ⊥
