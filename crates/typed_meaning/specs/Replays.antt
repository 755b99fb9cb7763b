-- Runs that compute: the rules are replayed over a list of quanta and replies.
use Rattle.std.specs.Prelude.{ℕ, ◌≡◌, List, Some, slice_get}
use Rattle.styx_msg.specs.declared.message.Rmsg.{Rmsg}
use Rattle.process_model.specs.Source.{Turn}
use Rattle.process_model.specs.Machine.{State, Event, replay}
use Rattle.process_model.specs.Law.{begins_code}
use Rattle.process_model.specs.Plain.{no_names}
use Rattle.limbo_typed.specs.Typed.{Module}
use Rattle.system_model.specs.Values.{Value}
use Rattle.system_model.specs.Prints.{Request}
use Rattle.system_model.specs.Ending.{Ending}
use Rattle.system_model.specs.Trace.{Trace}
use Rattle.system_model.specs.Limits.{frames_limit}
use Rattle.typed_meaning.specs.World.{World}
use Rattle.typed_meaning.specs.Program.{Routine, routines_of}
use Rattle.typed_meaning.specs.Process.{Process}
use Rattle.typed_meaning.specs.Rules.{rules}
use Rattle.typed_meaning.specs.Runs.{Meaning, MeaningRun, first_world, first_process}

-- A module has a run of which this is told.
pub record HasRun (m : Module) (init : ℕ) (trace : Trace) : Type 0 where
  pub turns : List Turn
  pub config : Meaning
  pub run : MeaningRun m init turns config
  pub told : config.trace ≡ trace

-- What a replay tells is told of a run.
abbrev pub ReplaysAreRuns : Type 0
ReplaysAreRuns =
    (m : Module) (init : ℕ) (first : Routine) → slice_get (routines_of m) init ≡ Some first →
    (longest : ℕ) (journal : List (Event Rmsg)) (t : State World Process Value Request Rmsg Ending) →
    replay (rules frames_limit (routines_of m)) no_names longest (begins_code (first_world m) (first_process first)) journal ≡ Some t →
    HasRun m init t.trace
