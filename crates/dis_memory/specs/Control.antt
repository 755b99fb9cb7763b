-- Calls, frames, modules and prints (Dis Virtual Machine Specification: frame, call, ret, jmp, load, mcall).
use Rattle.std.specs.Prelude.{ℕ, suc, ℤ, pos, List, [], ◌∷◌, Option, Some, None, slice_get, nat_lt, codes, if◌then◌else◌}
use Rattle.std.specs.Str.{bytes_eq}
use Rattle.process_model.specs.Process.{Went, Asks, Ends}
use Rattle.styx_msg.specs.declared.message.Rmsg.{Rmsg}
use Rattle.dis_isa.specs.declared.inst.Inst.{Inst}
use Rattle.dis_file.specs.declared.object.Object.{Object}
use Rattle.system_model.specs.Values.{Value}
use Rattle.system_model.specs.World as outside
use Rattle.system_model.specs.Prints.{Printing, Answers, Requests, NoReply, print, hear}
use Rattle.system_model.specs.Ending.{Ended, Broken}
use Rattle.dis_meaning.specs.Words.{Place, InBlock, InFrame, Word, Address, Access, Found, Wrong, Raises, ◌>>=◌, type_check}
use Rattle.dis_meaning.specs.Words.{or_wrong, word_at, reference, blank}
use Rattle.dis_meaning.specs.Process as process
use Rattle.dis_meaning.specs.Process.{Frame, Process, height, at_pc, with_frames}
use Rattle.dis_meaning.specs.Places.{Spot, Far, place_in}
use Rattle.dis_meaning.specs.Step.{frame_of, without, place_of, new_frame, names, path_of_sys, word_of}
use Rattle.dis_memory.specs.Blocks.{Block, Sys, World, block}
use Rattle.dis_memory.specs.Places.{Memory, memory, spot, store, behind, source_word, source_reference}
use Rattle.dis_memory.specs.Operands.{middle_immediate, source_type, target}
use Rattle.dis_memory.specs.Kinds.{text_at}
use Rattle.dis_memory.specs.Formats.{fitting, formatted}
use Rattle.dis_memory.specs.Process.{Does, stands_still, jumps, next, or_fault}
use Rattle.dis_memory.specs.Results.{gives_reference, gives_block}

-- ---- the outside

abbrev pub outside_of : World → outside.World
outside_of x = x.outside.outside

abbrev pub with_outside : World → outside.World → World
with_outside x w = record { heap = x.heap; outside = record { frames = x.outside.frames; outside = w } }

-- A new frame gets the next serial.
abbrev pub next_frame : World → ℕ
next_frame x = x.outside.frames

abbrev pub with_frame_made : World → World
with_frame_made x = record { heap = x.heap; outside = record { frames = suc x.outside.frames; outside = x.outside.outside } }

-- ---- frames

-- The frame whose address a word is. No block is one.
abbrev pub frame_at : World → Process → Word → Access Frame
frame_at x p (Address (InFrame s) at) = frame_of p s at
frame_at x p (Address (InBlock n) at) = block x n >>= λ b. Wrong type_check
frame_at x p _ = Wrong type_check

abbrev pub framed : Memory → List Word → Memory
framed m words = memory (with_frame_made m.world) (new_frame (next_frame m.world) m.process words)

-- A return: the frame goes, with all that it refers to, and the frame below goes on. The first function's return ends the process.
abbrev pub returns : World → Process → List Frame → Does
returns x p [] = Ends x Ended
returns x p (f ∷ below) = Went x (with_frames p f below p.made)

-- A call: the frame that calls waits below the one that is called. There are at most so many; one more breaks the process.
abbrev pub calls : (limit : ℕ) → World → Process → Frame → ℕ → Does
calls limit x p f pc =
    if nat_lt (height p) limit then Went x (with_frames p (at_pc f pc) (at_pc p.frame (suc p.frame.pc) ∷ p.below) (without f.serial p.made))
    else Ends x (Broken (codes "stack overflow"))

-- ---- prints

-- What a print's frame holds: the format is the first argument, at 32, and the others follow, from 36 on.
abbrev pub printed : World → List Word → Access (List ℕ)
printed x words =
    fitting (word_at words (pos 32) >>= reference >>= text_at x) >>= λ format. formatted x words format 36

-- Where a call's answer goes: the address that stands at 16 of its frame.
abbrev pub answer_spot : List Word → Access Spot
answer_spot words = word_at words (pos 16) >>= λ w. behind w (pos 0)

-- An answer goes to its place.
abbrev pub answered : World → Process → Place → ℤ → Value → Access Memory
answered x p place at v = store x p (Far place at) (word_of v)

abbrev pub asking : Process → Frame → process.Printing → Process
asking p f k = record { number = p.number; frame = f; below = p.below; made = p.made; printing = Some k }

-- The print's answer is stored at once, or once a reply has come.
abbrev pub prints : World → Process → Place → ℤ → Printing → Access Does
prints x p place at (Answers w v) = answered (with_outside x w) p place at v >>= λ m. Found (next m)
prints x p place at (Requests w m k) =
    Found (
    Asks (with_outside x w) m (asking p (at_pc p.frame (suc p.frame.pc)) (record { writing = k; place = place; at = at })))
prints x p place at NoReply = Found (stands_still x p)

-- A call of print, whose frame goes.
abbrev pub print_call : World → Process → Frame → Access Does
print_call x p f =
    printed x f.words >>= λ text.
    answer_spot f.words >>= λ s.
    place_of s >>= λ place.
    prints x (with_frames p p.frame p.below (without f.serial p.made)) place (place_in s) (print (outside_of x) text)

-- The built-in functions of Sys, by their names: so far print.
abbrev pub sys_call : World → Process → (name : List ℕ) → Frame → Access Does
sys_call x p name f = if bytes_eq name (codes "print") then print_call x p f else Wrong type_check

abbrev pub function_of : Block → ℕ → Access (List ℕ)
function_of (Sys names) k = or_wrong type_check (slice_get names k)
function_of _ k = Wrong type_check

abbrev pub not_loaded : List ℕ
not_loaded = codes "module not loaded"

abbrev pub loaded_module : Option ℕ → Access ℕ
loaded_module None = Raises not_loaded
loaded_module (Some n) = Found n

-- ---- the instructions

module _ (limit : ℕ) (o : Object) (x : World) (p : Process) (i : Inst) where
  abbrev pub jmp : Access Does
  jmp = target o i.dst >>= λ pc. Found (jumps x p pc)

  abbrev pub frame : Access Does
  frame =
      source_type o i.src >>= λ desc.
      spot x p i.dst >>= λ d.
      store x p d (Address (InFrame (next_frame x)) (pos 0)) >>= λ m.
      Found (next (framed m (blank desc)))

  abbrev pub call : Access Does
  call = source_word x p i.src >>= frame_at x p >>= λ f. target o i.dst >>= λ pc. Found (calls limit x p f pc)

  abbrev pub ret : Access Does
  ret = Found (returns x p p.below)

  -- The built-in Sys is a new block; no other module is there yet.
  abbrev pub load : Access Does
  load =
      source_reference x p i.src >>= text_at x >>= λ path.
      middle_immediate i.middle >>= λ n.
      or_wrong type_check (slice_get o.imports n) >>= λ table.
      (if bytes_eq path path_of_sys
      then gives_block x p i.dst (Found (Sys (names table)))
      else gives_reference x p i.dst (Found None))

  -- A function of a module that isn't there can't be called.
  abbrev pub mcall : Access Does
  mcall =
      source_word x p i.src >>= frame_at x p >>= λ f.
      middle_immediate i.middle >>= λ k.
      source_reference x p i.dst >>= loaded_module >>= block x >>= λ b.
      function_of b k >>= λ name.
      sys_call x p name f

-- ---- replies

-- A reply to a print.
abbrev pub hears : World → Process → Place → ℤ → Printing → Does
hears x p place at (Answers w v) =
    or_fault x p (
    answered (with_outside x w) p place at v >>= λ m.
    Found (Went m.world (with_frames m.process m.process.frame m.process.below m.process.made)))
hears x p place at (Requests w m k) =
    Asks (with_outside x w) m (asking p p.frame (record { writing = k; place = place; at = at }))
hears x p place at NoReply = stands_still x p

-- A reply, where one is waited for.
abbrev pub heard : Rmsg → World → Process → Option process.Printing → Does
heard a x p None = stands_still x p
heard a x p (Some k) = hears x p k.place k.at (hear a (outside_of x) k.writing)

abbrev pub answer : Rmsg → World → Process → Does
answer a x p = heard a x p p.printing
