-- In each configuration of a run each process holds what its trees name.
use Rattle.std.specs.Prelude.{ℕ, ◌≡◌, List, Some, slice_get}
use Rattle.styx_msg.specs.declared.message.Rmsg.{Rmsg}
use Rattle.process_model.specs.Process.{Doing, Ready, Waiting, Asking, Gone}
use Rattle.process_model.specs.Source.{Turn, Steps, Hears, Matched}
use Rattle.process_model.specs.Law.{begins}
use Rattle.limbo_typed.specs.Typed.{Module}
use Rattle.limbo_meaning.specs.Values.{Value}
use Rattle.limbo_meaning.specs.Program.{Routine, Program, program_of}
use Rattle.limbo_meaning.specs.Process.{Process}
use Rattle.limbo_meaning.specs.Rules.{rules, naming}
use Rattle.limbo_meaning.specs.Runs.{Meaning, MeaningRun, first_world, first_process}
use Rattle.limbo_meaning.specs.Origins.{TreeIsHeld}
use Rattle.limbo_meaning.specs.Owning.{FreshProgram, OwnProcess}

-- A process holds what its trees name, wherever it stands; one that is over has no trees.
abbrev pub OwnDoing : Doing Process Value → Type 0
OwnDoing (Ready p) = OwnProcess p
OwnDoing (Waiting bs p) = OwnProcess p
OwnDoing (Asking p) = OwnProcess p
OwnDoing Gone = Unit {0}

abbrev pub AllOwn : Meaning → Type 0
AllOwn c = (i : ℕ) (d : Doing Process Value) → slice_get c.processes i ≡ Some d → OwnDoing d

-- So it is as a module begins with one of its functions; each step of any process keeps it, and each reply; so it is in each configuration
-- of a run, and no process that can go on there has a name in its tree that it doesn't hold.
pub record RunsOwn : Type 0 where
  pub opening : (m : Module) (words : List (List ℕ)) (f : ℕ) (r : Routine) → slice_get (program_of m).routines f ≡ Some r →
      AllOwn (begins (first_world m words) (first_process m words r))
  pub steps : (limit : ℕ) (program : Program) → FreshProgram program → (c e : Meaning) (i : ℕ) → AllOwn c →
      Steps (rules limit program) naming c i e → AllOwn e
  pub replies : (limit : ℕ) (program : Program) → FreshProgram program → (c e : Meaning) (i : ℕ) (a : Rmsg) → AllOwn c →
      Hears (rules limit program) naming c i a e → AllOwn e
  pub onwards : (limit : ℕ) (program : Program) → FreshProgram program → (c e : Meaning) (turns : List Turn) → AllOwn c →
      Matched (rules limit program) naming c turns e → AllOwn e
  pub runs : (m : Module) (words : List (List ℕ)) (init : ℕ) (turns : List Turn) (c : Meaning) → MeaningRun m words init turns c → AllOwn c
  pub held : (m : Module) (words : List (List ℕ)) (init : ℕ) (turns : List Turn) (c : Meaning) → MeaningRun m words init turns c →
      (i : ℕ) (p : Process) → slice_get c.processes i ≡ Some (Ready p) → TreeIsHeld p
