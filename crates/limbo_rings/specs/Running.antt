-- No run makes a ring.
use Rattle.std.specs.Prelude.{ℕ, ◌≡◌, true, List}
use Rattle.process_model.specs.Naming.{total}
use Rattle.process_model.specs.Source.{Turn}
use Rattle.heap_model.specs.Kept.{Reached}
use Rattle.heap_model.specs.Heap.{graph}
use Rattle.heap_model.specs.Laws.{staying}
use Rattle.limbo_typed.specs.Typed.{Module}
use Rattle.limbo_typed.specs.Sound.{IsSound}
use Rattle.limbo_meaning.specs.Memory.{inside}
use Rattle.limbo_meaning.specs.Rules.{naming}
use Rattle.limbo_meaning.specs.Runs.{Meaning, MeaningRun}
use Rattle.limbo_kept.specs.Permitting.{NeverBack}
use Rattle.limbo_kept.specs.Storing.{StoresAllowed}
use Rattle.limbo_kept.specs.Modules.{AdtsAreLaid, TextsAreWritten, WordsAre, TakesWords}
use Rattle.limbo_rings.specs.Rings.{HasNoRing}

-- In no configuration of a run does a value of the heap name itself, where the module stores only what never comes to hold the object into
-- which it is stored. So what stays of the heap then is what is reached from the processes: nothing that is out of reach stays.
pub record RunsMakeNoRing (m : Module) : Type 0 where
  pub clean : (words : List (List ℕ)) → WordsAre words → (init : ℕ) (turns : List Turn) (c : Meaning)
      (run : MeaningRun m words init turns c) → TakesWords run.first → HasNoRing (graph inside c.world.heap)
  pub reached : (words : List (List ℕ)) → WordsAre words → (init : ℕ) (turns : List Turn) (c : Meaning)
      (run : MeaningRun m words init turns c) → TakesWords run.first → (n : ℕ) →
      staying inside (total naming c.processes) c.world.heap n ≡ true → Reached (graph inside c.world.heap) (total naming c.processes) n

abbrev pub SoundModulesMakeNoRing : Type 0
SoundModulesMakeNoRing =
    (m : Module) → IsSound m → AdtsAreLaid m.adts → TextsAreWritten m → StoresAllowed NeverBack m → RunsMakeNoRing m
