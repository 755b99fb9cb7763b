-- What the code of a module keeps of its meaning.
use Rattle.std.specs.Prelude.{ℕ, ◌≡◌, List, map, Some, slice_get}
use Rattle.styx_msg.specs.declared.message.Rmsg.{Rmsg}
use Rattle.process_model.specs.Machine.{State, Event, replay}
use Rattle.process_model.specs.Law.{begins_code}
use Rattle.process_model.specs.Plain.{PlainFollows, no_names}
use Rattle.limbo_typed.specs.Typed.{Function, Module}
use Rattle.system_model.specs.Values.{Value}
use Rattle.system_model.specs.Prints.{Request}
use Rattle.system_model.specs.Ending.{Ending}
use Rattle.system_model.specs.Limits.{frames_limit}
use Rattle.typed_meaning.specs.World.{World}
use Rattle.typed_meaning.specs.Program.{Routine, routines_of}
use Rattle.typed_meaning.specs.Runs.{first_world, first_process}
use Rattle.typed_meaning.specs.Replays.{HasRun}
use Rattle.slot_code.specs.Code as code
use Rattle.slot_code.specs.Machine.{Process}
use Rattle.slot_code.specs.Rules as code_rules
use Rattle.typed_lower.specs.Stands.{AllHandled, Ready, sides}

-- All that stands in a module's functions has code.
abbrev pub HasCode : Module → Type 0
HasCode m =
    (n : ℕ) (f : Function) → slice_get m.functions n ≡ Some f → AllHandled (map (λ v. v.ty) f.variables) 0 f.body

-- The code follows the meaning: whatever one process of the code does next, the module's process that it stands for does too, after
-- some steps of its own. Of seven instructions in a row at least one stands for a step. Both begin alike.
pub record Keeps (m : Module) (functions : List code.Function) : Type 0 where
  pub follows : PlainFollows (sides (routines_of m) functions)
  pub pace : follows.bound ≡ 7
  pub begins : (init : ℕ) (first : Routine) (h : code.Function) → slice_get (routines_of m) init ≡ Some first
      → slice_get functions init ≡ Some h
      → Ready (routines_of m) functions (first_process first) (code_rules.first_process init h)

-- Whatever journal a machine of the code keeps, what it tells is told of a run of the module.
abbrev pub JournalsAreRuns : Module → List code.Function → Type 0
JournalsAreRuns m functions =
    (init : ℕ) (first : Routine) (h : code.Function) → slice_get (routines_of m) init ≡ Some first → slice_get functions init ≡ Some h
    → (longest : ℕ) (journal : List (Event Rmsg)) (t : State World Process Value Request Rmsg Ending)
    → replay (code_rules.rules frames_limit functions) no_names longest (begins_code (first_world m) (code_rules.first_process init h))
    journal ≡ Some t
    → HasRun m init t.trace
