-- What an instruction came to, as the definition has it, and what memory is behind it.
use Rattle.std.specs.Prelude.{◌≡◌, ℕ, List, Option, Some, Result, Ok, Err, slice_get}
use Rattle.process_model.specs.Process.{Went, Asks, Ends}
use Rattle.system_model.specs.Ending.{Ended, Broken, Faulted}
use Rattle.dis_file.specs.declared.object.Object.{Object}
use Rattle.sys_print.specs.Printing.{view_request}
use Rattle.dis_meaning.specs.Words.{Access, ◌>>=◌}
use Rattle.dis_meaning.specs.Process.{Process}
use Rattle.dis_memory.specs.Blocks.{World}
use Rattle.dis_memory.specs.Process.{Does}
use Rattle.dis_memory.specs.Step.{work}
use Rattle.dis_places.specs.declared.fault.Halt.{Halt}
use Rattle.dis_places.specs.declared.fault.Halt.TheVariants as halt
use Rattle.dis_places.specs.declared.fault.Raise.{Raise}
use Rattle.dis_places.specs.declared.memory.Memory.{Memory}
use Rattle.dis_places.specs.declared.memory.Tables.{Tables}
use Rattle.dis_places.specs.declared.process.Asking.{Asking}
use Rattle.dis_places.specs.declared.process.Process as code_process
use Rattle.dis_places.specs.View.{view_process, view_world}
use Rattle.dis_places.specs.Words.{number_of, raised_text}
use Rattle.dis_code.specs.declared.code.Code.{Code}
use Rattle.dis_code.specs.Loaded.{IsLoaded}
use Rattle.dis_stores.specs.Storing.{Settles}
use Rattle.dis_calls.specs.declared.outcome.Does as code_does
use Rattle.dis_calls.specs.declared.outcome.Does.TheVariants as does
use Rattle.dis_calls.specs.Coming.{IsAsked, LeftAlone}
use Rattle.dis_steps.specs.declared.outcome.Stepped.{Stepped}
use Rattle.dis_steps.specs.declared.outcome.Stepped.TheVariants as stepped
use Rattle.dis_steps.specs.Codes.{running}
use Rattle.dis_steps.specs.Ending.{LetsGo}

-- What the instruction at a process's place does, or its fault or raise.
abbrev pub worked : (limit : ℕ) → List Object → World → Process → Access Does
worked limit objects x p = running objects x p >>= λ o. work limit o x p

-- The tables have what each of the objects asks for.
abbrev pub AreLoaded : Tables → List (List ℕ × Code) → Type 0
AreLoaded t codes = (k : ℕ) (code : List ℕ × Code) → slice_get codes k ≡ Some code → IsLoaded t code.1

-- A process that goes on or asks leaves memory as after the definition's step and its cut; one that is over has let go of all that it
-- referred to. Where memory was wanting, all is as it was.
abbrev pub Steps : Memory → code_process.Process → Stepped → Does → Memory → code_process.Process → Type 0
Steps m p stepped.Went does m' p' = (x : World) × (does ≡ Went x (view_process p')) × Settles m p x m' p'
Steps m p (stepped.Asked r) does m' p' = (x : World) × (does ≡ Asks x (view_request r) (view_process p')) × Settles m p x m' p'
Steps m p stepped.Ended does m' p' = (x : World) × (does ≡ Ends x Ended) × LetsGo m p x m'
Steps m p (stepped.Broken text) does m' p' = (x : World) × (does ≡ Ends x (Broken text)) × LetsGo m p x m'
Steps m p (stepped.Fault f) does m' p' = (x : World) × (does ≡ Ends x (Faulted (number_of f) p.frame.pc)) × LetsGo m p x m'
Steps m p stepped.NoMemory does m' p' = LeftAlone m p m' p'

-- What is asked is a message of the print that then waits for its reply.
abbrev pub Sent : Stepped → Option Asking → Type 0
Sent (stepped.Asked m) printing = IsAsked m printing
Sent _ printing = Unit {0}

-- An instruction that goes on where it does anything.
abbrev pub went_of : Result (Unit {0}) Halt → Result code_does.Does Halt
went_of (Ok u) = Ok does.Went
went_of (Err h) = Err h

-- What an instruction is told as that did this. A process that is over has let go of all that it referred to.
abbrev pub Done : code_does.Does → Memory → code_process.Process → Stepped → Memory → Type 0
Done does.Went m p s m' = (s ≡ stepped.Went) × (m' ≡ m)
Done (does.Asked r) m p s m' = (s ≡ stepped.Asked r) × (m' ≡ m)
Done does.Ended m p s m' = (s ≡ stepped.Ended) × LetsGo m p (view_world m) m'
Done (does.Broken text) m p s m' = (s ≡ stepped.Broken text) × LetsGo m p (view_world m) m'

-- What a fault, a raise and want of memory are told as: where the process is over, it has let go of all that it referred to.
abbrev pub Breaks : Raise → Memory → code_process.Process → Stepped → Memory → Type 0
Breaks r m p (stepped.Broken text) m' = (text ≡ raised_text r) × LetsGo m p (view_world m) m'
Breaks r m p stepped.NoMemory m' = m' ≡ m
Breaks r m p _ m' = ⊥

abbrev pub Halted : Halt → Memory → code_process.Process → Stepped → Memory → Type 0
Halted halt.NoMemory m p s m' = (s ≡ stepped.NoMemory) × (m' ≡ m)
Halted (halt.Fault f) m p s m' = (s ≡ stepped.Fault f) × LetsGo m p (view_world m) m'
Halted (halt.Raises r) m p s m' = Breaks r m p s m'
