-- A run of a module: its opening, and the steps and replies that follow.
use Rattle.std.specs.Prelude.{ℕ, ◌≡◌, List, [], ◌∷◌, Some, None, slice_get}
use Rattle.styx_msg.specs.declared.message.Rmsg.{Rmsg}
use Rattle.process_model.specs.Source.{Config, Turn, Matched}
use Rattle.process_model.specs.Law.{begins}
use Rattle.process_model.specs.Plain.{no_names}
use Rattle.limbo_typed.specs.Typed.{Module}
use Rattle.system_model.specs.Values.{Value}
use Rattle.system_model.specs.Limits.{frames_limit}
use Rattle.system_model.specs.World.{opening_world}
use Rattle.system_model.specs.Prints.{Request}
use Rattle.system_model.specs.Ending.{Ending}
use Rattle.typed_meaning.specs.World.{World}
use Rattle.typed_meaning.specs.Program.{Routine, routines_of, globals_of}
use Rattle.typed_meaning.specs.Process.{Process, frame_of}
use Rattle.typed_meaning.specs.Rules.{rules}

-- The world that a program begins in: nothing was asked, and the first module's instance has what its variables begin with.
abbrev pub first_world : Module → World
first_world m = record { outside = opening_world; instances = globals_of m ∷ [] }

-- The first process, number 1: one frame, of the function that begins, which takes no arguments, in the first instance.
abbrev pub first_process : Routine → Process
first_process r = record { number = 1; frame = frame_of 0 r []; below = []; printing = None }

abbrev pub Meaning : Type 0
Meaning = Config World Process Value Request Rmsg Ending

-- A run of a module that begins with its function `init`: from the opening world, with nothing told, by these turns, each so many
-- steps of one process, with replies between them, to a configuration, whose trace is what was told.
pub record MeaningRun (m : Module) (init : ℕ) (turns : List Turn) (c : Meaning) : Type 0 where
  pub first : Routine
  pub there : slice_get (routines_of m) init ≡ Some first
  pub run : Matched (rules frames_limit (routines_of m)) no_names (begins (first_world m) (first_process first)) turns c
