-- What the code of a program keeps of it.
use Rattle.std.specs.Prelude.{◌≡◌, ℕ, List, [], ◌∷◌, Option, Some, None, slice_get}
use Rattle.styx_msg.specs.declared.message.Rmsg.{Rmsg}
use Rattle.process_model.specs.Shared.{SharedSides, SharedFollows}
use Rattle.limbo_types.specs.Types.{Ty}
use Rattle.system_model.specs.Prints.{Request, Writing}
use Rattle.system_model.specs.Ending.{Ending}
use Rattle.limbo_meaning.specs.Values.{Value}
use Rattle.limbo_meaning.specs.Trees.{Block}
use Rattle.limbo_meaning.specs.Program.{Routine, Program}
use Rattle.limbo_meaning.specs.Process as source
use Rattle.limbo_meaning.specs.Process.{Shared}
use Rattle.limbo_meaning.specs.Rules as source_rules
use Rattle.core_code.specs.Code.{Function}
use Rattle.core_code.specs.Machine as machine
use Rattle.core_code.specs.Machine.{Frame}
use Rattle.core_code.specs.Statements.{code_of}
use Rattle.core_follows.specs.Handled.{HandledBlock}
use Rattle.core_follows.specs.Stands.{beside, sourced, coded, Stands, Waits, Hears}

module _ (limit : ℕ) (program : Program) where
  -- Frames that wait, one beside the other; the first of them for an answer of this type.
  pub data AllWait : Ty → List source.Frame → List Frame → Type 0 where
    none_waits : {t : Ty} → AllWait t [] []
    waits_below : {t : Ty} {fs : List source.Frame} {gs : List Frame} (g : Frame) (held : List (Option ℕ)) (todo : Block)
        → Waits limit program g t held todo → AllWait g.answer fs gs → AllWait t (beside g held todo ∷ fs) (g ∷ gs)

  -- Two processes that are ready.
  pub data Ready : source.Process → machine.Process → Type 0 where
    ready : {below : List source.Frame} {gs : List Frame} (n : ℕ) (g : Frame) (held : List (Option ℕ)) (todo : Block) (p : Option Writing)
        → Stands limit program g held todo → AllWait g.answer below gs → Ready (sourced n (beside g held todo) below) (coded n g gs p)

  -- Two that wait for a reply.
  pub data Asking : source.Process → machine.Process → Type 0 where
    asking : {below : List source.Frame} {gs : List Frame} (n : ℕ) (g : Frame) (held : List (Option ℕ)) (todo : Block) (p : Option Writing)
        → Hears limit program g held todo → AllWait g.answer below gs
        → Asking (record { number = n; frame = beside g held todo; below = below; printing = p }) (coded n g gs p)

  -- The program and its code, which share one world.
  abbrev pub sides : SharedSides Shared Shared source.Process machine.Process Value Request Rmsg Ending
  sides = record {
    program = source_rules.rules limit program;
    naming = source_rules.naming;
    code = machine.rules limit (code_of program);
    code_naming = machine.naming;
    ready = Ready;
    asking = Asking;
    worlds = λ w y. w ≡ y;
  }

  -- Both begin with a function.
  abbrev pub first_source : (number instance : ℕ) → Routine → Ty → List Value → source.Process
  first_source n i r t arguments = sourced n (source.frame_of program.adts i r t arguments) []

  abbrev pub first_code : (number instance : ℕ) → Function → Ty → List Value → machine.Process
  first_code n i f t arguments = coded n (machine.frame_of program.adts i f t arguments) [] None

  -- What the code does next a process of the program does: each instruction is matched by none, one or more of its steps, with equal
  -- worlds and equal names; and of any three instructions in a row one stands for a step. So it is from where functions begin.
  pub record Keeps : Type 0 where
    pub follows : SharedFollows sides
    pub pace : follows.bound ≡ 3
    pub begins : (n instance f : ℕ) (r : Routine) (g : Function) (t : Ty) (arguments : List Value) → slice_get program.routines f ≡ Some r
        → slice_get (code_of program).functions f ≡ Some g → Ready (first_source n instance r t arguments)
        (first_code n instance g t arguments)

-- All functions of the program are of the part that is handled.
abbrev pub HandledProgram : Program → Type 0
HandledProgram program = (f : ℕ) (r : Routine) → slice_get program.routines f ≡ Some r → HandledBlock program.adts 0 r.body

abbrev pub CodeKeeps : Type 0
CodeKeeps = (limit : ℕ) (program : Program) → HandledProgram program → Keeps limit program
