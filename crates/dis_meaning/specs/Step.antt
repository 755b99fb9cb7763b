-- One instruction of a process (Dis Virtual Machine Specification, the instructions by name). A source is looked at first, then the
-- middle, then the destination; the first of them that is wrong decides.
use Rattle.std.specs.Prelude.{ℕ, zero, suc, ℤ, pos, Bool, true, false, List, [], ◌∷◌, ◌++◌, length}
use Rattle.std.specs.Prelude.{map, Option, Some, None, Result, Ok, Err, slice_get, nat_eq, nat_lt, codes, if◌then◌else◌}
use Rattle.std.specs.Ordering.{int_eq}
use Rattle.std.specs.Str.{bytes_eq}
use Rattle.styx_msg.specs.declared.message.Rmsg.{Rmsg}
use Rattle.process_model.specs.Process.{Went, Asks, Ends}
use Rattle.limbo_values.specs.declared.number.Kind.{Kind}
use Rattle.limbo_values.specs.declared.number.Kind.TheVariants.{Int}
use Rattle.limbo_values.specs.declared.operator.Operator.{Operator}
use Rattle.limbo_values.specs.declared.operator.Shift.{Shift}
use Rattle.limbo_values.specs.declared.operator.Comparison.{Comparison}
use Rattle.limbo_values.specs.declared.raised.Raised.{Raised}
use Rattle.limbo_values.specs.Numbers.{wrapped}
use Rattle.limbo_values.specs.Operators.{text_of as exception_of, applied, shifted, compared}
use Rattle.dis_isa.specs.declared.inst.Inst.{Inst}
use Rattle.dis_isa.specs.declared.inst.Middle.{Middle}
use Rattle.dis_isa.specs.declared.inst.Middle.TheVariants as middle
use Rattle.dis_isa.specs.declared.inst.Operand.{Operand}
use Rattle.dis_isa.specs.declared.inst.Operand.TheVariants as operand
use Rattle.dis_isa.specs.declared.op.Op.{Op}
use Rattle.dis_isa.specs.declared.op.Op.TheVariants as op
use Rattle.dis_file.specs.declared.object.Import.{Import}
use Rattle.dis_file.specs.declared.object.Object.{Object}
use Rattle.system_model.specs.Values.{Value, Num}
use Rattle.system_model.specs.World as outside
use Rattle.system_model.specs.Prints.{Printing, Answers, Requests, NoReply, print, hear}
use Rattle.system_model.specs.Ending.{Ended, Broken}
use Rattle.dis_meaning.specs.Words.{Place, InBlock, InFrame, Word, Plain, Refer, Address, Access, Found, Wrong, Raises, ◌>>=◌, type_check}
use Rattle.dis_meaning.specs.Words.{bad_jump, or_wrong, word_at, plain, reference, word_number, replaced, at_least_zero, blank}
use Rattle.dis_meaning.specs.World.{Content, Text, Instance, Sys, World, block, with_block}
use Rattle.dis_meaning.specs.Process as process
use Rattle.dis_meaning.specs.Process.{Frame, Process, Does, height, at_pc, with_words, with_frames, stands_still, or_fault}
use Rattle.dis_meaning.specs.Numbers.{Row, Calculates, Shifts, Converts, Moves, Branches, number_row}
use Rattle.dis_meaning.specs.Places.{Spot, Far, Memory, around, store, spot, source_plain, source_word, read_number, store_number, source_of}
use Rattle.dis_meaning.specs.Places.{given_of, middle_of, words_in, all_frames, words_at, with_words_at, place_in, address, behind}
use Rattle.dis_meaning.specs.Formats.{formatted}

-- The process goes on with the next instruction.
abbrev pub next : Memory → Does
next m = Went m.world (with_frames m.process (at_pc m.process.frame (suc m.process.frame.pc)) m.process.below m.process.made)

-- The number of an immediate: a type, a function or a place in the code.
abbrev pub immediate : Operand → Access ℕ
immediate (operand.Imm n) = at_least_zero n
immediate _ = Wrong type_check

abbrev pub middle_immediate : Middle → Access ℕ
middle_immediate (middle.Imm n) = at_least_zero n
middle_immediate _ = Wrong type_check

-- The frame of this serial among those that are made, for an address so many bytes within it. It isn't that of a frame which was called
-- already, nor of a place within one; an address whose frame isn't there is dead.
abbrev pub made_frame : List Frame → (serial : ℕ) → Access Frame
made_frame [] s = Wrong type_check
made_frame (f ∷ fs) s = if nat_eq f.serial s then Found f else made_frame fs s

abbrev pub frame_of : Process → (serial : ℕ) → (at : ℤ) → Access Frame
frame_of p s at = words_in s (all_frames p) >>= λ words. if int_eq at (pos 0) then made_frame p.made s else Wrong type_check

-- The frame whose address a word is. No block is one.
abbrev pub frame_at : World → Process → Word → Access Frame
frame_at x p (Address (InFrame s) at) = frame_of p s at
frame_at x p (Address (InBlock n) at) = block x n >>= λ c. Wrong type_check
frame_at x p _ = Wrong type_check

-- The others.
abbrev pub without : ℕ → List Frame → List Frame
without s [] = []
without s (f ∷ fs) = if nat_eq f.serial s then without s fs else f ∷ without s fs

-- So many words of a list, from one on, all plain.
abbrev pub plains : List Word → (from count : ℕ) → Access (List Word)
plains words from zero = Found []
plains words from (suc n) =
    or_wrong type_check (slice_get words from) >>= λ w.
    plain w >>= λ v.
    plains words (suc from) n >>= λ vs.
    Found (v ∷ vs)

-- These words in place of those from one on.
abbrev pub all_replaced : List Word → (from : ℕ) → List Word → Access (List Word)
all_replaced words from [] = Found words
all_replaced words from (v ∷ vs) = replaced words from v >>= λ after. all_replaced after (suc from) vs

-- The text of a path or a format: that of nil is empty.
abbrev pub text_of : Content → Access (List ℕ)
text_of (Text chars) = Found chars
text_of _ = Wrong type_check

abbrev pub text_at : World → Option ℕ → Access (List ℕ)
text_at x None = Found []
text_at x (Some n) = block x n >>= text_of

-- Where a call's answer goes: the address that stands at 16 of its frame.
abbrev pub answer_spot : List Word → Access Spot
answer_spot words = word_at words (pos 16) >>= λ w. behind w (pos 0)

-- What a print's frame holds: the format is the first argument, at 32, and the numbers follow, from 36 on.
abbrev pub printed : World → List Word → Access (List ℕ)
printed x words =
    word_at words (pos 32) >>= reference >>= text_at x >>= λ format. formatted words format 36

abbrev pub word_of : Value → Word
word_of (Num n) = Plain n

abbrev pub outside_is : World → outside.World → World
outside_is x w = record { blocks = x.blocks; frames = x.frames; outside = w }

-- An answer goes to its place.
abbrev pub answered : World → Process → Place → ℤ → Value → Access Memory
answered x p place at v = store x p (Far place at) (word_of v)

abbrev pub place_of : Spot → Access Place
place_of (Far place at) = Found place
place_of _ = Wrong type_check

-- The print's answer is stored at once, or once a reply has come.
abbrev pub prints : World → Process → Place → ℤ → Printing → Access Does
prints x p place at (Answers w v) = answered (outside_is x w) p place at v >>= λ m. Found (next m)
prints x p place at (Requests w m k) =
    Found (Asks (outside_is x w) m (record {
      number = p.number;
      frame = at_pc p.frame (suc p.frame.pc);
      below = p.below;
      made = p.made;
      printing = Some (record { writing = k; place = place; at = at });
    }))
prints x p place at NoReply = Found (stands_still x p)

-- A call of print, whose frame goes.
abbrev pub print_call : World → Process → Frame → Access Does
print_call x p f =
    printed x f.words >>= λ text.
    answer_spot f.words >>= λ s.
    place_of s >>= λ place.
    prints x (with_frames p p.frame p.below (without f.serial p.made)) place (place_in s) (print x.outside text)

-- The built-in functions of Sys, by their names: so far print.
abbrev pub sys_call : World → Process → (name : List ℕ) → Frame → Access Does
sys_call x p name f = if bytes_eq name (codes "print") then print_call x p f else Wrong type_check

abbrev pub function_of : Content → ℕ → Access (List ℕ)
function_of (Sys names) k = or_wrong type_check (slice_get names k)
function_of _ k = Wrong type_check

abbrev pub module_at : World → Option ℕ → Access Content
module_at x None = Wrong type_check
module_at x (Some n) = block x n

abbrev pub names : List Import → List (List ℕ)
names imports = map (λ i. i.name) imports

abbrev pub path_of_sys : List ℕ
path_of_sys = codes "$Sys"

-- A new block, and a reference to it.
abbrev pub loaded : World → Process → Spot → List ℕ → List Import → Access Memory
loaded x p s path table =
    if bytes_eq path path_of_sys then store (with_block x (Sys (names table))) p s (Refer (Some (length x.blocks)))
    else store x p s (Refer None)

-- A new frame, which gets the next serial.
abbrev pub with_frame_made : World → World
with_frame_made x = record { blocks = x.blocks; frames = suc x.frames; outside = x.outside }

abbrev pub new_frame : (serial : ℕ) → Process → List Word → Process
new_frame s p words = record {
  number = p.number;
  frame = p.frame;
  below = p.below;
  made = p.made ++ record { serial = s; instance = p.frame.instance; pc = 0; words = words } ∷ [];
  printing = None;
}

abbrev pub framed : Memory → List Word → Memory
framed m words = record { world = with_frame_made m.world; process = new_frame m.world.frames m.process words }

-- A place in the code.
abbrev pub target : Object → Operand → Access ℕ
target o d = immediate d >>= λ pc. if nat_lt pc (length o.insts) then Found pc else Wrong bad_jump

-- The process goes on there.
abbrev pub jumps : World → Process → ℕ → Does
jumps x p pc = Went x (with_frames p (at_pc p.frame pc) p.below p.made)

abbrev pub branch : World → Process → Bool → ℕ → Does
branch x p true pc = jumps x p pc
branch x p false pc = next (record { world = x; process = p })

-- A return: the frame goes, and the frame below goes on. The first function's return ends the process.
abbrev pub returns : World → Process → List Frame → Does
returns x p [] = Ends x Ended
returns x p (f ∷ below) = Went x (with_frames p f below p.made)

-- A call: the frame that calls waits below the one that is called. There are at most so many; one more breaks the process.
abbrev pub calls : (limit : ℕ) → World → Process → Frame → ℕ → Does
calls limit x p f pc =
    if nat_lt (height p) limit then Went x (with_frames p (at_pc f pc) (at_pc p.frame (suc p.frame.pc) ∷ p.below) (without f.serial p.made))
    else Ends x (Broken (codes "stack overflow"))

-- A result is stored. What an operation raises instead, the instruction raises, where a number stands that the result would replace.
abbrev pub results : Kind → World → Process → Spot → Result ℤ Raised → Access Does
results kind x p d (Ok z) = store_number kind x p d z >>= λ after. Found (next after)
results kind x p d (Err raised) = read_number kind x p d >>= λ old. Raises (exception_of raised)

-- The middle is the left operand, the source the right one.
abbrev pub calculates : World → Process → Inst → Kind → Operator → Access Does
calculates x p i kind operator =
    source_of kind x p i.src >>= λ s.
    middle_of kind x p i.middle i.dst >>= λ m.
    spot x p i.dst >>= λ d.
    results kind x p d (applied kind operator m s)

-- The middle is shifted, by a source that is an int.
abbrev pub shifts : World → Process → Inst → Kind → Shift → Access Does
shifts x p i kind shift =
    source_of Int x p i.src >>= λ count.
    middle_of kind x p i.middle i.dst >>= λ m.
    spot x p i.dst >>= λ d.
    results kind x p d (Ok (shifted kind shift m count))

abbrev pub converts : World → Process → Inst → (from to : Kind) → Access Does
converts x p i from to =
    source_of from x p i.src >>= λ s.
    spot x p i.dst >>= λ d.
    results to x p d (Ok (wrapped to s))

abbrev pub moves : World → Process → Inst → Kind → Access Does
moves x p i kind = source_of kind x p i.src >>= λ s. spot x p i.dst >>= λ d. results kind x p d (Ok s)

-- The process goes on there where the source stands so to the middle.
abbrev pub branches : Object → World → Process → Inst → Kind → Comparison → Access Does
branches o x p i kind comparison =
    source_of kind x p i.src >>= λ s.
    given_of kind x p i.middle >>= λ m.
    target o i.dst >>= λ pc.
    Found (branch x p (compared comparison s m) pc)

abbrev pub by_row : Object → World → Process → Inst → Row → Access Does
by_row o x p i (Calculates kind operator) = calculates x p i kind operator
by_row o x p i (Shifts kind shift) = shifts x p i kind shift
by_row o x p i (Converts from to) = converts x p i from to
by_row o x p i (Moves kind) = moves x p i kind
by_row o x p i (Branches kind comparison) = branches o x p i kind comparison

-- An operation that has no row isn't in this part.
abbrev pub in_table : Object → World → Process → Inst → Option Row → Access Does
in_table o x p i (Some row) = by_row o x p i row
in_table o x p i None = Wrong type_check

module _ (limit : ℕ) (o : Object) where
  -- What an instruction does. Operations on numbers are those of the table, and those that aren't in this part are faults.
  abbrev pub obey : World → Process → Inst → Op → Access Does
  obey x p i op.Movw =
      source_plain x p i.src >>= λ w. spot x p i.dst >>= λ d. store x p d w >>= λ m. Found (next m)
  obey x p i op.Movp =
      source_word x p i.src >>= reference >>= λ r. spot x p i.dst >>= λ d. store x p d (Refer r) >>= λ m. Found (next m)
  obey x p i op.Movm =
      spot x p i.src >>= λ s.
      words_at x p s >>= λ from.
      word_number (place_in s) >>= λ k.
      given_of Int x p i.middle >>= at_least_zero >>= λ bytes.
      word_number (pos bytes) >>= λ count.
      plains from k count >>= λ vs.
      spot x p i.dst >>= λ d.
      words_at x p d >>= λ into.
      word_number (place_in d) >>= λ j.
      all_replaced into j vs >>= with_words_at x p d >>= λ m.
      Found (next m)
  obey x p i op.Lea =
      spot x p i.src >>= λ s. around x p s >>= λ w. spot x p i.dst >>= λ d. store x p d (address p s) >>= λ m. Found (next m)
  obey x p i op.Jmp = target o i.dst >>= λ pc. Found (jumps x p pc)
  obey x p i op.Frame =
      immediate i.src >>= λ n.
      or_wrong type_check (slice_get o.types n) >>= λ desc.
      spot x p i.dst >>= λ d.
      store x p d (Address (InFrame x.frames) (pos 0)) >>= λ m.
      Found (next (framed m (blank desc)))
  obey x p i op.Call =
      source_word x p i.src >>= frame_at x p >>= λ f. target o i.dst >>= λ pc. Found (calls limit x p f pc)
  obey x p i op.Ret = Found (returns x p p.below)
  obey x p i op.Load =
      source_word x p i.src >>= reference >>= text_at x >>= λ path.
      middle_immediate i.middle >>= λ n.
      or_wrong type_check (slice_get o.imports n) >>= λ table.
      spot x p i.dst >>= λ d.
      loaded x p d path table >>= λ m.
      Found (next m)
  obey x p i op.Mcall =
      source_word x p i.src >>= frame_at x p >>= λ f.
      middle_immediate i.middle >>= λ k.
      source_word x p i.dst >>= reference >>= module_at x >>= λ c.
      function_of c k >>= λ name.
      sys_call x p name f
  obey x p i operation = in_table o x p i (number_row operation)

  -- The instruction at the frame's place.
  abbrev pub work : World → Process → Access Does
  work x p = or_wrong bad_jump (slice_get o.insts p.frame.pc) >>= λ i. obey x p i i.op

abbrev pub object_of : Content → Access ℕ
object_of (Instance o words) = Found o
object_of _ = Wrong type_check

module _ (limit : ℕ) (objects : List Object) where
  -- The object whose code a process runs.
  abbrev pub code_of : World → Process → Access Object
  code_of x p = block x p.frame.instance >>= object_of >>= λ n. or_wrong type_check (slice_get objects n)

  abbrev pub step : World → Process → Does
  step x p = or_fault x p (code_of x p >>= λ o. work limit o x p)

-- A reply to a print.
abbrev pub hears : World → Process → Place → ℤ → Printing → Does
hears x p place at (Answers w v) =
    or_fault x p (
    answered (outside_is x w) p place at v >>= λ m.
    Found (Went m.world (with_frames m.process m.process.frame m.process.below m.process.made)))
hears x p place at (Requests w m k) =
    Asks (outside_is x w) m (record {
      number = p.number;
      frame = p.frame;
      below = p.below;
      made = p.made;
      printing = Some (record { writing = k; place = place; at = at });
    })
hears x p place at NoReply = stands_still x p

-- A reply, where one is waited for.
abbrev pub heard : Rmsg → World → Process → Option process.Printing → Does
heard a x p None = stands_still x p
heard a x p (Some k) = hears x p k.place k.at (hear a x.outside k.writing)

abbrev pub answer : Rmsg → World → Process → Does
answer a x p = heard a x p p.printing
