-- Words of the program, as the definitions have them, and what a call gives that may meet a fault or raise an exception.
use Rattle.std.specs.Prelude.{◌≡◌, ℕ, pos, List, map, codes, Result, Ok, Err}
use Rattle.std.specs.Int.{w32, cast_signed}
use Rattle.dis_meaning.specs.Words.{InBlock, InFrame, Word, Plain, Refer, Address}
use Rattle.dis_meaning.specs.Words.{Access, Found, Wrong, Raises, type_check, bad_jump, dead_address}
use Rattle.dis_memory.specs.Raising.{nil_text, negative_text, large_text}
use Rattle.dis_memory.specs.Control.{not_loaded}
use Rattle.limbo_values.specs.Operators.{text_of}
use Rattle.ref_heap.specs.declared.word.Word as code_word
use Rattle.ref_heap.specs.Words.{Cell, plain, refer, in_block, in_frame, cell_of}
use Rattle.dis_places.specs.declared.fault.Fault.{Fault}
use Rattle.dis_places.specs.declared.fault.Fault.TheVariants as fault
use Rattle.dis_places.specs.declared.fault.Raise.{Raise}
use Rattle.dis_places.specs.declared.fault.Raise.TheVariants as raise
use Rattle.dis_places.specs.declared.fault.Halt.{Halt}
use Rattle.dis_places.specs.declared.fault.Halt.TheVariants as halt

-- A number is signed, and an address is that of a byte from the first one on.
abbrev pub view_cell : Cell → Word
view_cell (plain n) = Plain (cast_signed w32 n)
view_cell (refer r) = Refer r
view_cell (in_block serial at) = Address (InBlock serial) (pos at)
view_cell (in_frame serial at) = Address (InFrame serial) (pos at)

abbrev pub view_cells : List Cell → List Word
view_cells cells = map view_cell cells

abbrev pub view_word : code_word.Word → Word
view_word w = view_cell (cell_of w)

abbrev pub view_words : List code_word.Word → List Word
view_words ws = map view_word ws

-- ---- what a call gives

abbrev pub number_of : Fault → ℕ
number_of fault.TypeCheck = type_check
number_of fault.BadJump = bad_jump
number_of fault.DeadAddress = dead_address

-- The text of what is raised.
abbrev pub raised_text : Raise → List ℕ
raised_text raise.Nil = nil_text
raised_text raise.Negative = negative_text
raised_text raise.Large = large_text
raised_text raise.NotLoaded = not_loaded
raised_text raise.BadFormat = codes "bad format"
raised_text (raise.Value raised) = text_of raised

-- A call gives what is found, or the fault.
abbrev pub GivesFault : {S T : Type 0} → (S → T) → Result S Fault → Access T → Type 0
GivesFault see (Ok s) access = access ≡ Found (see s)
GivesFault see (Err f) access = access ≡ Wrong (number_of f)

-- Of want of memory nothing is said.
abbrev pub Halts : {T : Type 0} → Halt → Access T → Type 0
Halts halt.NoMemory access = Unit {0}
Halts (halt.Fault f) access = access ≡ Wrong (number_of f)
Halts (halt.Raises r) access = access ≡ Raises (raised_text r)

abbrev pub Gives : {S T : Type 0} → (S → T) → Result S Halt → Access T → Type 0
Gives see (Ok s) access = access ≡ Found (see s)
Gives see (Err h) access = Halts h access
