-- What a process may ask of the outside.
use Rattle.std.specs.Prelude.{ℕ, ◌≡◌, ◌≤◌, List, length}
use Rattle.styx_msg.specs.declared.message.Rmsg.{Rmsg}
use Rattle.process_model.specs.Process.{Asks}
use Rattle.system_model.specs.Prints.{Request}
use Rattle.typed_meaning.specs.World.{World}
use Rattle.typed_meaning.specs.Program.{Routine}
use Rattle.typed_meaning.specs.Process.{Process}
use Rattle.typed_meaning.specs.Step.{step, answer}

-- A request over the console's link that is no longer than a message may be.
pub record IsSendable (m : Request) : Type 0 where
  pub console : m.link ≡ 1
  pub short : length m.frame ≤ 8216

-- Every request is, however long the text that is printed.
pub record RequestsAreSendable : Type 0 where
  pub first : (limit : ℕ) (routines : List Routine) (w v : World) (p q : Process) (m : Request) →
      step limit routines w p ≡ Asks v m q → IsSendable m
  pub later : (a : Rmsg) (w v : World) (p q : Process) (m : Request) → answer a w p ≡ Asks v m q → IsSendable m
