-- One process: its frames, and what becomes of them at a call, at a return and at a print.
use Rattle.std.specs.Prelude.{ℕ, suc, ◌-◌, List, [], ◌∷◌, ◌++◌, length, replicate, Option, Some, None, nat_lt, codes, if◌then◌else◌}
use Rattle.std.specs.Prelude.{slice_index_or, slice_set}
use Rattle.process_model.specs.Process.{Effect, Went, Parks, Asks, Ends}
use Rattle.system_model.specs.Values.{Value, zero_value}
use Rattle.system_model.specs.Ending.{Ending, Ended, Broken}
use Rattle.system_model.specs.Prints.{Request, Writing, Printing, Answers, Requests, NoReply}
use Rattle.typed_meaning.specs.Trees.{PlaceNode, Local, Global, Place, At, Block}
use Rattle.typed_meaning.specs.World.{World, with_outside, global_of, with_global}
use Rattle.typed_meaning.specs.Program.{Routine}
use Rattle.typed_meaning.specs.Evaluation.{fill_block}

-- A call of a function: the module instance that it runs in, its variables by their numbers, and what is left of its body.
pub record Frame : Type 0 where
  pub instance : ℕ
  pub variables : List Value
  pub todo : Block

-- A process: its number, the frame that runs, the frames that wait for it, the latest first, and the print that waits for a
-- reply, if one does.
pub record Process : Type 0 where
  pub number : ℕ
  pub frame : Frame
  pub below : List Frame
  pub printing : Option Writing

-- What a step of a process comes to.
abbrev pub Does : Type 0
Does = Effect World Process Value Request Ending

-- How many frames it has.
abbrev pub height : Process → ℕ
height p = suc (length p.below)

-- A frame with these variables, and this to do.
abbrev pub framed : Frame → List Value → Block → Frame
framed f variables todo = record { instance = f.instance; variables = variables; todo = todo }

-- The frame of a call: the arguments, and zeros for the other variables.
abbrev pub frame_of : (instance : ℕ) → Routine → List Value → Frame
frame_of i r args = record { instance = i; variables = args ++ replicate (r.variables - length args) zero_value; todo = r.body }

-- The process with these frames.
abbrev pub with_frames : Process → Frame → List Frame → Process
with_frames p f below = record { number = p.number; frame = f; below = below; printing = None }

-- ---- places

-- What stands there.
abbrev pub node_value : World → (instance : ℕ) → (variables : List Value) → PlaceNode → Value
node_value w i variables (Local x) = slice_index_or variables x zero_value
node_value w i variables (Global x) = global_of w i x

abbrev pub value_at : World → (instance : ℕ) → (variables : List Value) → Place → Value
value_at w i variables (At t n) = node_value w i variables n

-- What a frame reads.
abbrev pub reads : World → Frame → Place → Value
reads w f p = value_at w f.instance f.variables p

-- ---- what becomes of a process

-- No rule is there for what the process is to do. In a module of this part this doesn't come up.
abbrev pub stands_still : World → Process → Does
stands_still w p = Parks w [] p

-- Its frame goes on with this to do.
abbrev pub goes : World → Process → Block → Does
goes w p todo = Went w (with_frames p (framed p.frame p.frame.variables todo) p.below)

-- A place has this value from now on.
abbrev pub node_written : World → Process → PlaceNode → Value → Block → Does
node_written w p (Local x) v todo = Went w (with_frames p (framed p.frame (slice_set p.frame.variables x v) todo) p.below)
node_written w p (Global x) v todo = goes (with_global w p.frame.instance x v) p todo

abbrev pub written : World → Process → Place → Value → Block → Does
written w p (At t n) v todo = node_written w p n v todo

-- A return: the frame goes, and the frame below has the answer. The first function's return ends the process.
abbrev pub returns : World → Process → List Frame → Value → Does
returns w p [] v = Ends w Ended
returns w p (f ∷ below) v = Went w (with_frames p (framed f f.variables (fill_block v f.todo)) below)

-- A call: the frame that calls waits below a new one, of the same instance. There are at most so many frames; one more breaks the process.
abbrev pub calls : (limit : ℕ) → World → Process → (waits : Block) → Option Routine → List Value → Does
calls limit w p waits None args = stands_still w p
calls limit w p waits (Some r) args =
    if nat_lt (height p) limit
    then Went w (with_frames p (frame_of p.frame.instance r args) (framed p.frame p.frame.variables waits ∷ p.below))
    else Ends w (Broken (codes "stack overflow"))

-- A print, and what waits for its answer, at once or until a reply has come.
abbrev pub prints : World → Process → (waits : Block) → Printing → Does
prints w p waits (Answers o v) = goes (with_outside w o) p (fill_block v waits)
prints w p waits (Requests o m k) = Asks (with_outside w o) m (record {
  number = p.number;
  frame = framed p.frame p.frame.variables waits;
  below = p.below;
  printing = Some k;
})
prints w p waits NoReply = stands_still w p

-- What a reply comes to in the process that waits for it: it goes on with the answer, or asks again.
abbrev pub hears : World → Process → Printing → Does
hears w p (Answers o v) = goes (with_outside w o) p (fill_block v p.frame.todo)
hears w p (Requests o m k) =
    Asks (with_outside w o) m (record { number = p.number; frame = p.frame; below = p.below; printing = Some k })
hears w p NoReply = stands_still w p
