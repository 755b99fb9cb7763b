-- One process of three-address code: its frames, and what becomes of them at a call, at a return and at a print.
use Rattle.std.specs.Prelude.{ℕ, zero, suc, ◌-◌, ◌&&◌, Bool, true, false, List, [], ◌∷◌, ◌++◌, length, replicate, Option, Some, None}
use Rattle.std.specs.Prelude.{slice_index_or, slice_set, nat_eq, nat_lt, codes, if◌then◌else◌}
use Rattle.process_model.specs.Process.{Effect, Went, Parks, Asks, Ends}
use Rattle.limbo_values.specs.declared.number.Kind.{Kind}
use Rattle.limbo_values.specs.declared.number.Kind.TheVariants.{Byte, Int, Big}
use Rattle.typed_meaning.specs.Values.{number_of}
use Rattle.limbo_typed.specs.declared.print.Piece.{Piece}
use Rattle.system_model.specs.Values.{Value, Num, zero_value}
use Rattle.system_model.specs.Prints.{Request, Writing, Printing, Answers, Requests, NoReply}
use Rattle.system_model.specs.Ending.{Ending, Ended, Broken}
use Rattle.typed_meaning.specs.World.{World, with_outside, global_of, with_global}
use Rattle.slot_code.specs.Code.{Spot, Variable, Global, Temporary, Argument, Operand, In, Number, Function}

-- ---- places

abbrev pub same_kind : Kind → Kind → Bool
same_kind Byte Byte = true
same_kind Int Int = true
same_kind Big Big = true
same_kind _ _ = false

-- What each temporary holds.
abbrev pub Temporaries : Type 0
Temporaries = Kind → ℕ → Value

abbrev pub put : Temporaries → Kind → ℕ → Value → Temporaries
put temporaries k n v j m = if same_kind k j && nat_eq n m then v else temporaries j m

-- A call, or a print by a format, that is being made ready: the arguments that it was given.
pub record Made : Type 0 where
  pub arguments : ℕ → Value
  pub format : List Piece

abbrev pub no_arguments : ℕ → Value
no_arguments n = zero_value

abbrev pub with_argument : ℕ → Value → Made → Made
with_argument n v m = record { arguments = λ k. if nat_eq n k then v else m.arguments k; format = m.format }

-- The first of a list of these has one more argument.
abbrev pub given : ℕ → Value → List Made → List Made
given n v [] = []
given n v (m ∷ ms) = with_argument n v m ∷ ms

-- So many of its arguments.
abbrev pub taken : (ℕ → Value) → (from count : ℕ) → List Value
taken arguments from zero = []
taken arguments from (suc n) = arguments from ∷ taken arguments (suc from) n

-- A call of a function: the function, the module instance that it runs in, the place in its code, its variables and temporaries, the calls
-- that are being made ready, the innermost first, and of which kind the answer is that the frame waits for, and where it goes.
pub record Frame : Type 0 where
  pub function : ℕ
  pub instance : ℕ
  pub pc : ℕ
  pub variables : List Value
  pub temporaries : Temporaries
  pub made : List Made
  pub answer : Kind
  pub into : Spot

-- A process: its number, the frame that runs, the frames that wait for it, the latest first, and the print that waits for a
-- reply, if one does.
pub record Process : Type 0 where
  pub number : ℕ
  pub frame : Frame
  pub below : List Frame
  pub printing : Option Writing

abbrev pub Does : Type 0
Does = Effect World Process Value Request Ending

-- How many frames it has.
abbrev pub height : Process → ℕ
height p = suc (length p.below)

-- The arguments are the first variables, and the others have zero.
abbrev pub entered : (function instance : ℕ) → Function → List Value → Frame
entered f i g arguments = record {
  function = f;
  instance = i;
  pc = 0;
  variables = arguments ++ replicate (length g.variables - length arguments) zero_value;
  temporaries = λ k n. zero_value;
  made = [];
  answer = Int;
  into = Temporary Int 0;
}

-- ---- what places hold

-- A variable holds a number of its kind, whatever was written to it.
abbrev pub held_in : World → Frame → Spot → Value
held_in w f (Variable k x) = number_of k (slice_index_or f.variables x zero_value)
held_in w f (Global k x) = number_of k (global_of w f.instance x)
held_in w f (Temporary k n) = f.temporaries k n
held_in w f (Argument k n) = zero_value

abbrev pub value_of : World → Frame → Operand → Value
value_of w f (In s) = held_in w f s
value_of w f (Number z) = Num z

-- ---- what becomes of a process

abbrev pub with_frames : Process → Frame → List Frame → Process
with_frames p f below = record { number = p.number; frame = f; below = below; printing = None }

-- Nothing is there to do. In proper code this doesn't come up.
abbrev pub stands_still : World → Process → Does
stands_still w p = Parks w [] p

-- A frame at this place.
abbrev pub moved : Frame → (pc : ℕ) → Frame
moved f pc = record f { pc = pc }

-- Its frame goes on at this place.
abbrev pub goes : World → Process → (pc : ℕ) → Does
goes w p pc = Went w (with_frames p (moved p.frame pc) p.below)

-- A world, and a frame in it.
pub record Memory : Type 0 where
  pub world : World
  pub frame : Frame

-- A place gets a value.
abbrev pub stored : World → Frame → Spot → Value → Memory
stored w f (Variable k x) v = record { world = w; frame = record f { variables = slice_set f.variables x (number_of k v) } }
stored w f (Global k x) v = record { world = with_global w f.instance x (number_of k v); frame = f }
stored w f (Temporary k n) v = record { world = w; frame = record f { temporaries = put f.temporaries k n v } }
stored w f (Argument k n) v = record { world = w; frame = record f { made = given n v f.made } }

-- Then the frame goes on at this place, in front of these.
abbrev pub goes_with : Process → List Frame → (pc : ℕ) → Memory → Does
goes_with p below pc m = Went m.world (with_frames p (moved m.frame pc) below)

abbrev pub next : World → Process → Spot → Value → Does
next w p s v = goes_with p p.below (suc p.frame.pc) (stored w p.frame s v)

-- A return: the frame goes, and the frame below has the answer. The first function's return ends the process.
abbrev pub returns : World → Process → List Frame → Value → Does
returns w p [] v = Ends w Ended
returns w p (f ∷ below) v = goes_with p below f.pc (stored w f f.into (number_of f.answer v))

-- What waits for an answer, which goes to this place.
abbrev pub waiting : Frame → List Made → Kind → Spot → Frame
waiting f made k into = record f { pc = suc f.pc; made = made; answer = k; into = into }

-- A call with these arguments: a frame waits below the new one. There are at most so many frames; one more breaks the process.
abbrev pub calls : (limit : ℕ) → World → Process → Frame → (function : ℕ) → Option Function → List Value → Does
calls limit w p waits f None arguments = stands_still w p
calls limit w p waits f (Some g) arguments =
    if nat_lt (height p) limit then Went w (with_frames p (entered f p.frame.instance g arguments) (waits ∷ p.below))
    else Ends w (Broken (codes "stack overflow"))

-- A print: what it answers goes to a place, at once or once a reply has come.
abbrev pub prints : World → Process → (waits : Frame) → Printing → Does
prints w p f (Answers o v) = goes_with p p.below f.pc (stored (with_outside w o) f f.into (number_of f.answer v))
prints w p f (Requests o m k) =
    Asks (with_outside w o) m (record { number = p.number; frame = f; below = p.below; printing = Some k })
prints w p f NoReply = stands_still w p
