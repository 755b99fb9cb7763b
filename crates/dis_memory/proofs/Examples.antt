-- Small programs of the machine with memory, one for each family of instructions, worked out: what a frame's words and the heap are after
-- so many instructions, with what nobody names gone behind each, and what was told.
use Rattle.std.proofs.Common.{◌≡◌, ℕ, pos, List, [], ◌∷◌, ◌++◌, refl}
use Rattle.std.specs.Int.{int_wrap}
use Rattle.std.specs.Prelude.{Option, Some, None, drop, replicate, codes, slice_get}
use Rattle.styx_msg.specs.declared.message.Rmsg.{Rmsg}
use Rattle.process_model.specs.Process.{Doing, Ready, Entry, Over, Released}
use Rattle.process_model.specs.Machine.{State, turns}
use Rattle.heap_model.specs.Heap.{Heap}
use Rattle.dis_isa.specs.declared.inst.Inst.{Inst}
use Rattle.dis_isa.specs.declared.inst.Middle.{Middle}
use Rattle.dis_isa.specs.declared.inst.Middle.TheVariants as middle
use Rattle.dis_isa.specs.declared.inst.Operand.{Operand}
use Rattle.dis_isa.specs.declared.inst.Operand.TheVariants as operand
use Rattle.dis_isa.specs.declared.op.Op.{Op}
use Rattle.dis_isa.specs.declared.op.Op.TheVariants as op
use Rattle.dis_file.specs.declared.object.Object.{Object}
use Rattle.dis_file.specs.declared.types.TypeDesc.{TypeDesc}
use Rattle.system_model.specs.Values.{Value}
use Rattle.system_model.specs.Prints.{Request}
use Rattle.system_model.specs.Ending.{Ending, Broken, Faulted}
use Rattle.system_model.specs.World.{opening_world}
use Rattle.dis_meaning.specs.Words.{InBlock, Word, Plain, Refer, Address}
use Rattle.dis_meaning.specs.Process.{Process}
use Rattle.dis_memory.specs.Blocks.{Block, Text, Array, Part, Cell, Instance, World}
use Rattle.dis_memory.specs.Naming.{naming}
use Rattle.dis_memory.specs.Rules.{rules}

-- ---- how programs are run

abbrev inst : Op → Operand → Middle → Operand → Inst
inst o s m d = record { op = o; middle = m; src = s; dst = d }

abbrev two : Op → Operand → Operand → Inst
two o s d = inst o s middle.None d

-- The byte so far into the frame, a number, and the byte that a word of the frame leads to.
abbrev fp : ℕ → Operand
fp n = operand.Fp (pos n)

abbrev imm : ℕ → Operand
imm n = operand.Imm (pos n)

abbrev to : ℕ → ℕ → Operand
to n m = operand.IndFp (pos n) (pos m)

abbrev mid : ℕ → Middle
mid n = middle.Imm (pos n)

abbrev mid_fp : ℕ → Middle
mid_fp n = middle.Fp (pos n)

abbrev type : ℕ → List ℕ → TypeDesc
type size map = record { size = size; map = map }

abbrev object : List TypeDesc → List Inst → Object
object types insts = record {
  flags = 0;
  stack = 0;
  data_size = 0;
  entry_pc = 0;
  entry_type = 0;
  insts = insts;
  types = types;
  items = [];
  «module» = [];
  links = [];
  imports = [];
  catches = [];
}

abbrev first : List Word → Process
first words = record {
  number = 1;
  frame = record { serial = 0; instance = 0; pc = 0; words = replicate 8 (Plain (pos 0)) ++ words };
  below = [];
  made = [];
  printing = None;
}

abbrev Told : Type 0
Told = Entry Value Request Rmsg Ending

abbrev opening : List Word → State World Process Value Request Rmsg Ending
opening words = record {
  processes = Ready (first words) ∷ [];
  world = record { heap = Some (Instance 0 []) ∷ []; outside = record { frames = 1; outside = opening_world } };
  waiters = [];
  trace = [];
}

-- What is seen of a state: the words of the frame that runs, behind the first eight, the blocks behind the first, and what was told.
record Seen : Type 0 where
  words : List Word
  blocks : Heap Block
  trace : List Told

abbrev words_of : Option (Doing Process Value) → List Word
words_of (Some (Ready p)) = drop 8 p.frame.words
words_of _ = []

abbrev seen : Option (State World Process Value Request Rmsg Ending) → Option Seen
seen None = None
seen (Some s) = Some (record { words = words_of (slice_get s.processes 0); blocks = drop 1 s.world.heap; trace = s.trace })

-- After so many instructions of an object with these types and this code, whose frame begins with these words.
abbrev after : ℕ → List TypeDesc → List Word → List Inst → Option Seen
after n types words insts = seen (turns (rules 10000 (object types insts ∷ [])) naming 0 n (opening words))

abbrev nil : Word
nil = Refer None

abbrev zero_word : Word
zero_word = Plain (pos 0)

-- It ended so.
abbrev ends : Heap Block → List Told → Option Seen
ends blocks trace = Some (record { words = []; blocks = blocks; trace = trace })

-- ---- strings: one grows character by character, and another that was the same stays as it was

grows : after 5 [] (nil ∷ zero_word ∷ nil ∷ []) (
    inst op.Insc (imm 97) (mid 0) (fp 32) ∷ inst op.Insc (imm 98) (mid 1) (fp 32) ∷ two op.Lenc (fp 32) (fp 36)
    ∷ two op.Movp (fp 32) (fp 40) ∷ inst op.Insc (imm 99) (mid 0) (fp 32) ∷ [])
    ≡ Some (record {
      words = Refer (Some 3) ∷ Plain (pos 2) ∷ Refer (Some 2) ∷ [];
      blocks = None ∷ Some (Text (codes "ab")) ∷ Some (Text (codes "cb")) ∷ [];
      trace = Released 0 (1 ∷ []) ∷ [];
    })
grows = refl

-- ---- arrays: a byte that is stored through a slice is read through the array

through_a_slice : after 7 (type 0 [] ∷ type 1 [] ∷ []) (nil ∷ nil ∷ zero_word ∷ zero_word ∷ []) (
    inst op.Newa (imm 4) (mid 1) (fp 32) ∷ two op.Movp (fp 32) (fp 36) ∷ inst op.Slicea (imm 1) (mid 3) (fp 36)
    ∷ inst op.Indb (fp 36) (mid_fp 40) (imm 0) ∷ two op.Movb (imm 7) (to 40 0) ∷ inst op.Indb (fp 32) (mid_fp 40) (imm 1)
    ∷ two op.Cvtbw (to 40 0) (fp 44) ∷ [])
    ≡ Some (record {
      words = Refer (Some 1) ∷ Refer (Some 2) ∷ Address (InBlock 1) (pos 1) ∷ Plain (pos 7) ∷ [];
      blocks = Some (Array (type 1 []) 4 (Plain (pos 458752) ∷ [])) ∷ Some (Part 1 1 2) ∷ [];
      trace = [];
    })
unfolding int_wrap
through_a_slice = refl

outside_an_array : after 2 (type 0 [] ∷ type 4 [] ∷ []) (nil ∷ zero_word ∷ []) (
    inst op.Newa (imm 2) (mid 1) (fp 32) ∷ inst op.Indw (fp 32) (mid_fp 36) (imm 2) ∷ [])
    ≡ ends (None ∷ []) (Over 0 (Broken (codes "array bounds error")) ∷ Released 0 (0 ∷ 1 ∷ []) ∷ [])
outside_an_array = refl

-- ---- lists: three cells are put in front of one another, counted, read and let go

cells : after 6 [] (nil ∷ zero_word ∷ zero_word ∷ []) (
    two op.Consw (imm 1) (fp 32) ∷ two op.Consw (imm 2) (fp 32) ∷ two op.Consw (imm 3) (fp 32) ∷ two op.Lenl (fp 32) (fp 36)
    ∷ two op.Headw (fp 32) (fp 40) ∷ two op.Tail (fp 32) (fp 32) ∷ [])
    ≡ Some (record {
      words = Refer (Some 2) ∷ Plain (pos 3) ∷ Plain (pos 3) ∷ [];
      blocks = Some (Cell (Plain (pos 1) ∷ []) None) ∷ Some (Cell (Plain (pos 2) ∷ []) (Some 1)) ∷ None ∷ [];
      trace = Released 0 (3 ∷ []) ∷ [];
    })
unfolding int_wrap
cells = refl

-- ---- records: both strings that a record refers to go with it, in one step

goes_whole : after 4 (type 0 [] ∷ type 8 (192 ∷ []) ∷ []) (nil ∷ nil ∷ []) (
    two op.New (imm 1) (fp 32) ∷ inst op.Insc (imm 97) (mid 0) (to 32 0) ∷ inst op.Insc (imm 98) (mid 0) (to 32 4)
    ∷ two op.Movp (fp 36) (fp 32) ∷ [])
    ≡ Some (record { words = nil ∷ nil ∷ []; blocks = None ∷ None ∷ None ∷ []; trace = Released 0 (1 ∷ 2 ∷ 3 ∷ []) ∷ [] })
goes_whole = refl

-- ---- what is wrong, and what is raised

into_a_string : after 2 [] (nil ∷ zero_word ∷ []) (inst op.Insc (imm 97) (mid 0) (fp 32) ∷ two op.Movw (to 32 0) (fp 36) ∷ [])
    ≡ ends (None ∷ []) (Over 0 (Faulted 110 1) ∷ Released 0 (0 ∷ 1 ∷ []) ∷ [])
into_a_string = refl

behind_nil : after 1 [] (nil ∷ zero_word ∷ []) (two op.Movw (to 32 0) (fp 36) ∷ [])
    ≡ ends [] (Over 0 (Broken (codes "dereference of nil")) ∷ Released 0 (0 ∷ []) ∷ [])
behind_nil = refl

past_the_code : after 1 [] [] (two op.Jmp operand.None (imm 7) ∷ [])
    ≡ ends [] (Over 0 (Faulted 111 0) ∷ Released 0 (0 ∷ []) ∷ [])
past_the_code = refl

-- The frame of a function that has returned isn't there any more.
after_its_return : after 4 (type 0 [] ∷ type 32 [] ∷ []) (zero_word ∷ zero_word ∷ []) (
    two op.Frame (imm 1) (fp 32) ∷ two op.Call (fp 32) (imm 3) ∷ two op.Movw (to 32 0) (fp 36) ∷ two op.Ret operand.None operand.None ∷ [])
    ≡ ends [] (Over 0 (Faulted 112 2) ∷ Released 0 (0 ∷ []) ∷ [])
after_its_return = refl
