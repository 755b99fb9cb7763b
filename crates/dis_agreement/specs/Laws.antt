-- That both machines do the same.
use Rattle.std.specs.Prelude.{ℕ, List}
use Rattle.styx_msg.specs.declared.message.Rmsg.{Rmsg}
use Rattle.dis_file.specs.declared.object.Object.{Object}
use Rattle.dis_meaning.specs.World as today
use Rattle.dis_meaning.specs.Process.{Process}
use Rattle.dis_meaning.specs.Step as today_step
use Rattle.dis_memory.specs.Blocks.{World}
use Rattle.dis_memory.specs.Control.{answer}
use Rattle.dis_memory.specs.Step.{step}
use Rattle.dis_agreement.specs.Agreement.{Agrees, IsRight, SameDone}

-- From states that agree, an instruction that is right on the machine of numbers does the same on the machine with memory.
abbrev pub StepsAgree : Type 0
StepsAgree =
    (limit : ℕ) (objects : List Object) (x : today.World) (y : World) (p : Process) → Agrees x y p →
    IsRight (today_step.step limit objects x p) →
    SameDone (today_step.step limit objects x p) (step limit objects y p)

-- So does a reply that is right.
abbrev pub AnswersAgree : Type 0
AnswersAgree =
    (reply : Rmsg) (x : today.World) (y : World) (p : Process) → Agrees x y p →
    IsRight (today_step.answer reply x p) →
    SameDone (today_step.answer reply x p) (answer reply y p)
