-- When a machine of numbers never faults, by what its processes do next.
use Rattle.std.specs.Prelude.{ℕ, ◌≡◌, List, Some, slice_get}
use Rattle.styx_msg.specs.declared.message.Rmsg.{Rmsg}
use Rattle.process_model.specs.Process.{Ends, Ready, Asking}
use Rattle.process_model.specs.Machine.{Event, replay}
use Rattle.process_model.specs.Plain.{no_names}
use Rattle.dis_file.specs.declared.object.Object.{Object}
use Rattle.system_model.specs.Ending.{Faulted}
use Rattle.dis_meaning.specs.World.{World}
use Rattle.dis_meaning.specs.Process.{Process}
use Rattle.dis_meaning.specs.Rules.{rules}
use Rattle.dis_meaning.specs.Step.{step, answer}
use Rattle.dis_agreement.specs.Runs.{Today, NoFault, NeverFaults}

module _ (limit : ℕ) (objects : List Object) (s : Today) where
  -- After this journal, whatever its longest quantum is.
  abbrev pub IsAfter : (longest : ℕ) → List (Event Rmsg) → Today → Type 0
  IsAfter longest journal u = replay (rules limit objects) no_names longest s journal ≡ Some u

  -- After no journal is the next instruction of a process wrong, nor what a reply to it does.
  pub record NothingIsWrong : Type 0 where
    pub instructions : (longest : ℕ) (journal : List (Event Rmsg)) (u : Today) → IsAfter longest journal u →
        (pid : ℕ) (p : Process) → slice_get u.processes pid ≡ Some (Ready p) →
        (y : World) (number pc : ℕ) → step limit objects u.world p ≡ Ends y (Faulted number pc) → ⊥
    pub replies : (longest : ℕ) (journal : List (Event Rmsg)) (u : Today) → IsAfter longest journal u →
        (pid : ℕ) (p : Process) → slice_get u.processes pid ≡ Some (Asking p) →
        (reply : Rmsg) (y : World) (number pc : ℕ) → answer reply u.world p ≡ Ends y (Faulted number pc) → ⊥

-- Then no journal comes to a fault, nor any of its quanta.
abbrev pub RightNeverFaults : Type 0
RightNeverFaults =
    (limit longest : ℕ) (objects : List Object) (s : Today) → NoFault s.trace → NothingIsWrong limit objects s →
    NeverFaults limit longest objects s
