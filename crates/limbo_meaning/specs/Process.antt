-- One process: its frames, what it names of the heap, and what becomes of it at a call, at a return and at a print.
use Rattle.std.specs.Prelude.{ℕ, suc, ◌+◌, List, [], ◌∷◌, ◌++◌, length, Option, Some, None, nat_lt, if◌then◌else◌}
use Rattle.process_model.specs.Process.{Branch, Effect, Went, Parks, Asks, Ends}
use Rattle.heap_model.specs.Joined.{World}
use Rattle.limbo_types.specs.Types.{Ty}
use Rattle.limbo_layout.specs.Adts.{Def}
use Rattle.system_model.specs.Values as system
use Rattle.system_model.specs.World as outside
use Rattle.system_model.specs.Ending.{Ending, Ended, Broken}
use Rattle.system_model.specs.Prints.{Request, Writing, Printing, Answers, Requests, NoReply}
use Rattle.limbo_meaning.specs.Values.{Value, Num, fitted, all_fitted, references, references_in, one, among}
use Rattle.limbo_meaning.specs.Memory.{HeapValue, Memory}
use Rattle.limbo_meaning.specs.Exceptions.{stack_overflow}
use Rattle.limbo_meaning.specs.Trees.{Block}
use Rattle.limbo_meaning.specs.Evaluation.{fill_block}
use Rattle.limbo_meaning.specs.Program.{Routine}

-- What processes share: the heap, in which the modules' instances stand too, and the outside.
abbrev pub Shared : Type 0
Shared = World HeapValue outside.World

-- A call of a function: the module instance that it runs in, its variables by their numbers, what its statement holds, in the order in
-- which it was got, the type of its answer, and what is left of its body.
pub record Frame : Type 0 where
  pub instance : ℕ
  pub variables : List Value
  pub held : List (Option ℕ)
  pub answer : Ty
  pub todo : Block

-- A process: its number, the frame that runs, the frames that wait for it, the latest first, and the print that waits for a
-- reply, if one does.
pub record Process : Type 0 where
  pub number : ℕ
  pub frame : Frame
  pub below : List Frame
  pub printing : Option Writing

-- What a step of a process comes to.
abbrev pub Does : Type 0
Does = Effect Shared Process Value Request Ending

-- How many frames it has.
abbrev pub height : Process → ℕ
height p = suc (length p.below)

-- ---- what a process names

-- A frame names its instance, and what its variables and what it holds name. What is evaluated in its tree was got, so it is held.
abbrev pub frame_names : Frame → ℕ → ℕ
frame_names f n = one n (Some f.instance) + (among n (references_in f.variables) + among n f.held)

abbrev pub frames_name : List Frame → ℕ → ℕ
frames_name [] n = 0
frames_name (f ∷ fs) n = frame_names f n + frames_name fs n

abbrev pub process_names : Process → ℕ → ℕ
process_names p n = frame_names p.frame n + frames_name p.below n

-- A table of branches names their channels, and what their values name.
abbrev pub table_names : List (Branch Value) → ℕ → ℕ
table_names [] n = 0
table_names (b ∷ bs) n = (one n (Some b.channel) + among n (references b.value)) + table_names bs n

-- ---- frames

-- What the statements of a frame read and write.
abbrev pub memory_of : Shared → Frame → Memory
memory_of w f = record { variables = f.variables; instance = f.instance; heap = w.heap }

abbrev pub shared_with : Shared → Memory → Shared
shared_with w m = record { heap = m.heap; outside = w.outside }

-- A frame that has this to do, with these variables, and holds this.
abbrev pub framed : Frame → List Value → (held : List (Option ℕ)) → Block → Frame
framed f variables held todo =
    record { instance = f.instance; variables = variables; held = held; answer = f.answer; todo = todo }

-- The frame of a call: the arguments as values of the parameters' types, and zero or `nil` for the other variables.
abbrev pub frame_of : List Def → (instance : ℕ) → Routine → (answer : Ty) → List Value → Frame
frame_of defs i r t args =
    record { instance = i; variables = all_fitted defs r.variables args; held = []; answer = t; todo = r.body }

-- The process with these frames.
abbrev pub with_frames : Process → Frame → List Frame → Process
with_frames p f below = record { number = p.number; frame = f; below = below; printing = None }

-- ---- what becomes of a process

-- No rule is there for what the process is to do.
abbrev pub stands_still : Shared → Process → Does
stands_still w p = Parks w [] p

-- Its frame goes on with this to do, with what it has and holds.
abbrev pub goes : Shared → Process → Block → Does
goes w p todo = Went w (with_frames p (framed p.frame p.frame.variables p.frame.held todo) p.below)

-- What it holds is dropped first, in the order got, each reference in a step of its own, in which nothing else is done. Behind that comes
-- what is given.
abbrev pub drops : Shared → Process → (held : List (Option ℕ)) → Does → Does
drops w p [] done = done
drops w p (r ∷ rs) done = Went w (with_frames p (framed p.frame p.frame.variables rs p.frame.todo) p.below)

-- An expression has made a step: the frame holds in addition what was got.
abbrev pub stepped : Shared → Process → Memory → (got : List (Option ℕ)) → Block → Does
stepped w p m got todo =
    Went (shared_with w m) (with_frames p (framed p.frame m.variables (p.frame.held ++ got) todo) p.below)

-- A frame has an answer, and holds its references.
abbrev pub answered : Frame → Value → Frame
answered f v = framed f f.variables (f.held ++ references v) (fill_block v f.todo)

-- A return: the frame goes with all that it has and holds, and the frame below has the answer. The first function's return ends the
-- process.
abbrev pub returns : List Def → Shared → Process → List Frame → Value → Does
returns defs w p [] v = Ends w Ended
returns defs w p (f ∷ below) v = Went w (with_frames p (answered f (fitted defs p.frame.answer v)) below)

-- A call: the frame that calls waits below a new one, of the same instance. There are at most so many frames; one more breaks the process.
abbrev pub calls : List Def → (limit : ℕ) → Shared → Process → (waits : Block) → Ty → Option Routine → List Value → Does
calls defs limit w p waits t None args = stands_still w p
calls defs limit w p waits t (Some r) args =
    if nat_lt (height p) limit
    then Went w (with_frames p (frame_of defs p.frame.instance r t args) (framed p.frame p.frame.variables p.frame.held waits ∷ p.below))
    else Ends w (Broken stack_overflow)

-- A number that the outside answers.
abbrev pub value_of : system.Value → Value
value_of (system.Num z) = Num z

abbrev pub with_outside : Shared → outside.World → Shared
with_outside w o = record { heap = w.heap; outside = o }

-- A print, and what waits for its answer, at once or until a reply has come.
abbrev pub prints : Shared → Process → (waits : Block) → Printing → Does
prints w p waits (Answers o v) = goes (with_outside w o) p (fill_block (value_of v) waits)
prints w p waits (Requests o m k) = Asks (with_outside w o) m (record {
  number = p.number;
  frame = framed p.frame p.frame.variables p.frame.held waits;
  below = p.below;
  printing = Some k;
})
prints w p waits NoReply = stands_still w p

-- What a reply comes to in the process that waits for it: it goes on with the answer, or asks again.
abbrev pub hears : Shared → Process → Printing → Does
hears w p (Answers o v) = goes (with_outside w o) p (fill_block (value_of v) p.frame.todo)
hears w p (Requests o m k) =
    Asks (with_outside w o) m (record { number = p.number; frame = p.frame; below = p.below; printing = Some k })
hears w p NoReply = stands_still w p
