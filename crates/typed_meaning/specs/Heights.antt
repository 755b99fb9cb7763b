-- How high the stack of a process is: a call makes it one frame higher and a return one lower, no other step changes it, and none
-- makes it higher than the limit.
use Rattle.std.specs.Prelude.{ℕ, suc, ◌≡◌, ◌≤◌, List, Some, slice_get}
use Rattle.styx_msg.specs.declared.message.Rmsg.{Rmsg}
use Rattle.process_model.specs.Process.{Went, Asks, Doing, Ready, Waiting, Asking, Gone}
use Rattle.process_model.specs.Source.{Turn}
use Rattle.limbo_typed.specs.Typed.{Module}
use Rattle.system_model.specs.Values.{Value}
use Rattle.system_model.specs.Prints.{Request}
use Rattle.system_model.specs.Limits.{frames_limit}
use Rattle.typed_meaning.specs.Trees.{Place, Term, Stm, Eval, Set, If, While, Return, Leave, Block, Done, Then}
use Rattle.typed_meaning.specs.World.{World}
use Rattle.typed_meaning.specs.Program.{Routine}
use Rattle.typed_meaning.specs.Evaluation.{Progress, Finished, Calls, next}
use Rattle.typed_meaning.specs.Process.{Process, height, reads}
use Rattle.typed_meaning.specs.Step.{step, answer}
use Rattle.typed_meaning.specs.Runs.{Meaning, MeaningRun}

-- What a process does next: it calls, returns, or does something else.
pub data Kind : Type 0 where
  Calling : Kind
  Returning : Kind
  Other : Kind

-- In an expression: a call where one is ready; and where all is evaluated, what its statement does.
abbrev pub kind_in : Progress Value Term → Kind → Kind
kind_in (Finished v) done = done
kind_in (Calls f vs t) done = Calling
kind_in _ done = Other

abbrev pub kind_of_stm : (Place → Value) → Stm → Kind
kind_of_stm reads (Eval t) = kind_in (next reads t) Other
kind_of_stm reads (Set ps t) = kind_in (next reads t) Other
kind_of_stm reads (If t a b) = kind_in (next reads t) Other
kind_of_stm reads (While t l) = kind_in (next reads t) Other
kind_of_stm reads (Return t) = kind_in (next reads t) Returning
kind_of_stm reads Leave = Returning
kind_of_stm reads _ = Other

abbrev pub kind_of_block : (Place → Value) → Block → Kind
kind_of_block reads Done = Returning
kind_of_block reads (Then s rest) = kind_of_stm reads s
kind_of_block reads _ = Other

abbrev pub kind_of : World → Process → Kind
kind_of w p = kind_of_block (reads w p.frame) p.frame.todo

-- The height after a step of each kind.
abbrev pub HeightAfter : Kind → (before after : ℕ) → Type 0
HeightAfter Calling before after = after ≡ suc before
HeightAfter Returning before after = before ≡ suc after
HeightAfter Other before after = after ≡ before

-- So it is at every step by which a process goes on; and where it asks, or is answered, its height stays.
pub record Heights : Type 0 where
  pub goes : (limit : ℕ) (routines : List Routine) (w v : World) (p q : Process) →
      step limit routines w p ≡ Went v q → HeightAfter (kind_of w p) (height p) (height q)
  pub asks : (limit : ℕ) (routines : List Routine) (w v : World) (p q : Process) (m : Request) →
      step limit routines w p ≡ Asks v m q → height q ≡ height p
  pub hears : (a : Rmsg) (w v : World) (p q : Process) → answer a w p ≡ Went v q → height q ≡ height p
  pub asks_again : (a : Rmsg) (w v : World) (p q : Process) (m : Request) → answer a w p ≡ Asks v m q → height q ≡ height p

-- No step makes a process higher than the limit.
abbrev pub NeverHigher : Type 0
NeverHigher =
    (limit : ℕ) (routines : List Routine) (w v : World) (p q : Process) →
    height p ≤ limit → step limit routines w p ≡ Went v q → height q ≤ limit

-- The process of such a place is at most so high.
abbrev pub IsLow : ℕ → Doing Process Value → Type 0
IsLow limit (Ready p) = height p ≤ limit
IsLow limit (Waiting branches p) = height p ≤ limit
IsLow limit (Asking p) = height p ≤ limit
IsLow limit Gone = Unit {0}

-- In each run of a module, each process has at most 10,000 frames, at every moment.
abbrev pub RunsStayLow : Type 0
RunsStayLow =
    (m : Module) (init : ℕ) (turns : List Turn) (c : Meaning) → MeaningRun m init turns c →
    (i : ℕ) (d : Doing Process Value) → slice_get c.processes i ≡ Some d → IsLow frames_limit d
