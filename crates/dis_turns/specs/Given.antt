-- Serials of frames, behind steps and replies.
use Rattle.std.specs.Prelude.{ℕ, List}
use Rattle.styx_msg.specs.declared.message.Rmsg.{Rmsg}
use Rattle.process_model.specs.Process.{Doing, Ready, Waiting, Asking, Gone}
use Rattle.dis_file.specs.declared.object.Object.{Object}
use Rattle.system_model.specs.Values.{Value}
use Rattle.dis_meaning.specs.Process.{Process}
use Rattle.dis_memory.specs.Blocks.{World}
use Rattle.dis_memory.specs.Control.{answer}
use Rattle.dis_memory.specs.Step.{step}
use Rattle.dis_serials.specs.Given.{HasGiven}
use Rattle.dis_places.specs.declared.memory.Memory.{Memory}
use Rattle.dis_places.specs.declared.process.Process as code_process
use Rattle.dis_places.specs.View.{view_process, view_world}
use Rattle.dis_prints.specs.declared.heard.Heard.{Heard}
use Rattle.dis_steps.specs.declared.outcome.Stepped.{Stepped}
use Rattle.dis_steps.specs.Hearing.{Replies}
use Rattle.dis_steps.specs.Stepping.{Steps}
use Rattle.dis_turns.specs.Turns.{doing_after}
use Rattle.dis_turns.specs.Replies.{doing_heard}

-- Each frame of a process that isn't over has a serial that the machine gave.
abbrev pub IsGiven : World → Doing Process Value → Type 0
IsGiven x (Ready q) = HasGiven x q
IsGiven x (Waiting bs q) = HasGiven x q
IsGiven x (Asking q) = HasGiven x q
IsGiven x Gone = Unit {0}

-- So it is behind each step and each reply, whatever it came to.
pub record KeepsGiven : Type 0 where
  pub steps : (limit : ℕ) (objects : List Object) (m m' : Memory) (p p' : code_process.Process) (s : Stepped) →
      HasGiven (view_world m) (view_process p) → Steps m p s (step limit objects (view_world m) (view_process p)) m' p' →
      IsGiven (view_world m') (doing_after s (view_process p'))
  pub replies : (a : Rmsg) (m m' : Memory) (p p' : code_process.Process) (h : Heard) →
      HasGiven (view_world m) (view_process p) → Replies m p h (answer a (view_world m) (view_process p)) m' p' →
      IsGiven (view_world m') (doing_heard h (view_process p'))
