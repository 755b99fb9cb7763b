-- The Dis code of three-address code. Places are in bytes.
use Rattle.std.specs.Prelude.{ℕ, suc, ℤ, pos, negsuc, ◌+◌, ◌-◌, Bool, true, false, ◌&&◌, ◌==◌, int_le}
use Rattle.std.specs.Prelude.{List, [], ◌∷◌, ◌++◌, take, Option, Some, if◌then◌else◌}
use Rattle.dis_isa.specs.declared.inst.Inst as code_inst
use Rattle.dis_isa.specs.declared.inst.Middle.{Middle}
use Rattle.dis_isa.specs.declared.inst.Middle.TheVariants as middle
use Rattle.dis_isa.specs.declared.inst.Operand as isa
use Rattle.dis_isa.specs.declared.inst.Operand.TheVariants as operand
use Rattle.dis_isa.specs.declared.op.Op.{Op}
use Rattle.dis_isa.specs.declared.op.Op.TheVariants as op
use Rattle.limbo_values.specs.declared.number.Kind.{Kind}
use Rattle.limbo_values.specs.declared.number.Kind.TheVariants.{Byte, Int, Big}
use Rattle.limbo_values.specs.declared.operator.Operator.{Operator}
use Rattle.limbo_values.specs.declared.operator.Operator.TheVariants as operator
use Rattle.limbo_values.specs.declared.operator.Shift.{Shift}
use Rattle.limbo_values.specs.declared.operator.Shift.TheVariants as shift
use Rattle.limbo_values.specs.declared.operator.Unary.{Unary}
use Rattle.limbo_values.specs.declared.operator.Unary.TheVariants as unary
use Rattle.limbo_values.specs.declared.operator.Comparison.{Comparison}
use Rattle.limbo_values.specs.declared.operator.Comparison.TheVariants as comparison
use Rattle.limbo_typed.specs.declared.operation.Operation.{Operation}
use Rattle.limbo_typed.specs.declared.operation.Operation.TheVariants as operation
use Rattle.limbo_typed.specs.declared.print.Hole.{Hole}
use Rattle.limbo_typed.specs.declared.print.Hole.TheVariants as hole
use Rattle.limbo_typed.specs.declared.print.Piece.{Piece}
use Rattle.limbo_typed.specs.declared.print.Piece.TheVariants as piece
use Rattle.slot_code.specs.Code.{Spot, Variable, Global, Temporary, Argument, Operand, In, Number, Inst, Move, Hand, Alter, Operate, Branch}
use Rattle.slot_code.specs.Code.{Jump, Skip, Back, Begin, Call, Format, Print, Return, Leave, Function, GlobalVariable}
use Rattle.dis_objects.specs.Frames.{Callee, Calls, Prints, Room, variable_place, temporary_place, ready_place, block_place}
use Rattle.dis_objects.specs.Frames.{argument_bytes, first_place, made_by, answer_place, passing_place}

abbrev pub Code : Type 0
Code = List code_inst.Inst

-- ---- data

-- What stands in the module's data: a text, or a number in one word or two; or words of zeros, that arguments begin with.
pub data Datum : Type 0 where
  Text : List ℕ → Datum
  Word : ℤ → Datum
  Long : ℤ → Datum

abbrev pub datum_bytes : Datum → ℕ
datum_bytes (Text t) = 4
datum_bytes (Word z) = 4
datum_bytes (Long z) = 8

abbrev pub data_bytes : List Datum → ℕ
data_bytes [] = 0
data_bytes (d ∷ ds) = datum_bytes d + data_bytes ds

-- A number of a kind.
abbrev pub number_datum : Kind → ℤ → Datum
number_datum Big z = Long z
number_datum _ z = Word z

-- The module's data begin with the path of Sys and the module that is loaded from there. Then come the module's variables, each in a word
-- of its own, a big in two; a byte stands in the last byte of its word.
abbrev pub path_word : isa.Operand
path_word = operand.Mp (pos 0)

abbrev pub sys_word : isa.Operand
sys_word = operand.Mp (pos 4)

abbrev pub globals_place : ℕ
globals_place = 8

abbrev pub global_bytes : Option Kind → ℕ
global_bytes (Some Big) = 8
global_bytes _ = 4

abbrev pub globals_bytes : List GlobalVariable → ℕ
globals_bytes [] = 0
globals_bytes (g ∷ gs) = global_bytes g.kind + globals_bytes gs

abbrev pub within_word : Kind → ℕ
within_word Byte = 3
within_word _ = 0

abbrev pub global_place : List GlobalVariable → Kind → (number : ℕ) → ℕ
global_place gs k x = globals_place + globals_bytes (take x gs) + within_word k

-- A format as a text: `%` is doubled where it stands for itself.
abbrev pub doubled : List ℕ → List ℕ
doubled [] = []
doubled (c ∷ cs) = if c == 37 then 37 ∷ 37 ∷ doubled cs else c ∷ doubled cs

-- `%d`, `%bd`, `%c` and `%x`
abbrev pub hole_text : Hole → List ℕ
hole_text (hole.Decimal Big) = 37 ∷ 98 ∷ 100 ∷ []
hole_text (hole.Decimal k) = 37 ∷ 100 ∷ []
hole_text hole.Character = 37 ∷ 99 ∷ []
hole_text hole.Hexadecimal = 37 ∷ 120 ∷ []
hole_text h = []

abbrev pub format_text : List Piece → List ℕ
format_text [] = []
format_text (piece.Chars cs ∷ ps) = doubled cs ++ format_text ps
format_text (piece.Hole h ∷ ps) = hole_text h ++ format_text ps

-- A source is an immediate of 30 bits, a middle of 16.
abbrev pub fits_source : ℤ → Bool
fits_source n = int_le (negsuc 536870911) n && int_le n (pos 536870911)

abbrev pub fits_middle : ℤ → Bool
fits_middle n = int_le (negsuc 32767) n && int_le n (pos 32767)

-- ---- what the code of a function needs to know

-- The functions and the variables of the module, where the code of each function begins, the type of a print's frame, the place of zeros;
-- and of the function its variables, the room of its frame, its instructions, of which kind its answer is, and where its code begins.
pub record Context : Type 0 where
  pub functions : List Function
  pub globals : List GlobalVariable
  pub entries : ℕ → ℕ
  pub print_type : ℤ
  pub zeros : ℕ
  pub function : Function
  pub room : Room
  pub base : ℕ

-- ---- operands

abbrev pub own : ℕ → isa.Operand
own at = operand.Fp (pos at)

abbrev pub place_of : Context → List Callee → Spot → isa.Operand
place_of c made (Variable k x) = own (variable_place c.function x)
place_of c made (Global k x) = operand.Mp (pos (global_place c.globals k x))
place_of c made (Temporary k n) = own (temporary_place c.room k n)
place_of c made (Argument k i) = own (ready_place c.functions c.room made i)

-- A number: an immediate, or what stands at a place of the module's data.
abbrev pub number_source : Bool → ℤ → (at : ℕ) → isa.Operand
number_source true n at = operand.Imm n
number_source false n at = operand.Mp (pos at)

abbrev pub number_middle : Bool → ℤ → (at : ℕ) → Middle
number_middle true n at = middle.Imm n
number_middle false n at = middle.Mp (pos at)

abbrev pub source : Context → Operand → (at : ℕ) → isa.Operand
source c (In s) at = place_of c [] s
source c (Number z) at = number_source (fits_source z) z at

abbrev pub as_middle : isa.Operand → Middle
as_middle (operand.Fp at) = middle.Fp at
as_middle (operand.Mp at) = middle.Mp at
as_middle _ = middle.None

abbrev pub middle_of : Context → Operand → (at : ℕ) → Middle
middle_of c (In s) at = as_middle (place_of c [] s)
middle_of c (Number z) at = number_middle (fits_middle z) z at

-- The data that operands of a kind need.
abbrev pub unless_fits : Bool → Datum → List Datum
unless_fits true d = []
unless_fits false d = d ∷ []

abbrev pub source_data : Kind → Operand → List Datum
source_data k (In s) = []
source_data k (Number z) = unless_fits (fits_source z) (number_datum k z)

abbrev pub middle_data : Kind → Operand → List Datum
middle_data k (In s) = []
middle_data k (Number z) = unless_fits (fits_middle z) (number_datum k z)

-- ---- operations

abbrev pub by_kind : (byte int big : Op) → Kind → Op
by_kind b w l Byte = b
by_kind b w l Int = w
by_kind b w l Big = l

abbrev pub move_op : Kind → Op
move_op = by_kind op.Movb op.Movw op.Movl

abbrev pub arithmetic_op : Operator → Kind → Op
arithmetic_op operator.Add = by_kind op.Addb op.Addw op.Addl
arithmetic_op operator.Subtract = by_kind op.Subb op.Subw op.Subl
arithmetic_op operator.Multiply = by_kind op.Mulb op.Mulw op.Mull
arithmetic_op operator.Divide = by_kind op.Divb op.Divw op.Divl
arithmetic_op operator.Remainder = by_kind op.Modb op.Modw op.Modl
arithmetic_op operator.And = by_kind op.Andb op.Andw op.Andl
arithmetic_op operator.Xor = by_kind op.Xorb op.Xorw op.Xorl
arithmetic_op operator.Or = by_kind op.Orb op.Orw op.Orl

abbrev pub shift_op : Shift → Kind → Op
shift_op shift.Left = by_kind op.Shlb op.Shlw op.Shll
shift_op shift.Right = by_kind op.Shrb op.Shrw op.Shrl

abbrev pub branch_op : Comparison → Kind → Op
branch_op comparison.Equal = by_kind op.Beqb op.Beqw op.Beql
branch_op comparison.Unequal = by_kind op.Bneb op.Bnew op.Bnel
branch_op comparison.Less = by_kind op.Bltb op.Bltw op.Bltl
branch_op comparison.AtMost = by_kind op.Bleb op.Blew op.Blel
branch_op comparison.Greater = by_kind op.Bgtb op.Bgtw op.Bgtl
branch_op comparison.AtLeast = by_kind op.Bgeb op.Bgew op.Bgel

-- ---- instructions

abbrev pub inst : Op → isa.Operand → Middle → isa.Operand → code_inst.Inst
inst o s m d = record { op = o; middle = m; src = s; dst = d }

abbrev pub moving : Kind → isa.Operand → isa.Operand → code_inst.Inst
moving k s d = inst (move_op k) s middle.None d

abbrev pub jump_to : ℕ → code_inst.Inst
jump_to pc = inst op.Jmp operand.None middle.None (operand.Imm (pos pc))

-- One operand beside a constant: `-a` is 0 - a, `~a` is -1 - a.
abbrev pub altered : Unary → Kind → isa.Operand → isa.Operand → code_inst.Inst
altered unary.Plus k s d = moving k s d
altered unary.Minus k s d = inst (arithmetic_op operator.Subtract k) s (middle.Imm (pos 0)) d
altered unary.Complement k s d = inst (arithmetic_op operator.Subtract k) s (middle.Imm (negsuc 0)) d
altered unary.Increment k s d = inst (arithmetic_op operator.Add k) s (middle.Imm (pos 1)) d
altered unary.Decrement k s d = inst (arithmetic_op operator.Add k) s (middle.Imm (negsuc 0)) d

-- A byte becomes a big by way of an int, and a big a byte.
abbrev pub converted : (from to : Kind) → isa.Operand → isa.Operand → Code
converted Byte Int s d = inst op.Cvtbw s middle.None d ∷ []
converted Int Byte s d = inst op.Cvtwb s middle.None d ∷ []
converted Int Big s d = inst op.Cvtwl s middle.None d ∷ []
converted Big Int s d = inst op.Cvtlw s middle.None d ∷ []
converted Byte Big s d = inst op.Cvtbw s middle.None (own passing_place) ∷ inst op.Cvtwl (own passing_place) middle.None d ∷ []
converted Big Byte s d = inst op.Cvtlw s middle.None (own passing_place) ∷ inst op.Cvtwb (own passing_place) middle.None d ∷ []
converted k j s d = moving k s d ∷ []

-- A comparison whose result is 1 where it branches, and else 0. The code begins here.
abbrev pub decided : (here : ℕ) → Op → isa.Operand → Middle → isa.Operand → Code
decided here o s m d =
    inst o s m (operand.Imm (pos (here + 3))) ∷ moving Int (operand.Imm (pos 0)) d ∷ jump_to (here + 4)
    ∷ moving Int (operand.Imm (pos 1)) d ∷ []

abbrev pub altering : (here : ℕ) → Operation → isa.Operand → isa.Operand → Code
altering here (operation.Alter u k) s d = altered u k s d ∷ []
altering here operation.Not s d = decided here op.Beqw s (middle.Imm (pos 0)) d
altering here (operation.Convert from to) s d = converted from to s d
altering here o s d = []

-- Of which kind the operand of such an operation is, and each of two.
abbrev pub operand_kind : Operation → Kind
operand_kind (operation.Arithmetic o k) = k
operand_kind (operation.Shift s k) = k
operand_kind (operation.Alter u k) = k
operand_kind (operation.Compare c k) = k
operand_kind (operation.Convert from to) = from
operand_kind o = Int

abbrev pub right_kind : Operation → Kind
right_kind (operation.Shift s k) = Int
right_kind o = operand_kind o

-- The middle is the left operand, the source the right one; a comparison has its left operand for its source.
abbrev pub operating : Context → (here at : ℕ) → Operation → (left right : Operand) → isa.Operand → Code
operating c here at (operation.Arithmetic o k) x y d =
    inst (arithmetic_op o k) (source c y at) (middle_of c x (at + data_bytes (source_data k y))) d ∷ []
operating c here at (operation.Shift s k) x y d =
    inst (shift_op s k) (source c y at) (middle_of c x (at + data_bytes (source_data Int y))) d ∷ []
operating c here at (operation.Compare o k) x y d =
    decided here (branch_op o k) (source c x at) (middle_of c y (at + data_bytes (source_data k x))) d
operating c here at o x y d = []

abbrev pub operation_data : Operation → (left right : Operand) → List Datum
operation_data (operation.Arithmetic o k) x y = source_data k y ++ middle_data k x
operation_data (operation.Shift s k) x y = source_data Int y ++ middle_data k x
operation_data (operation.Compare o k) x y = source_data k x ++ middle_data k y
operation_data o x y = []

-- ---- sizes

abbrev pub altering_size : Operation → ℕ
altering_size (operation.Alter u k) = 1
altering_size operation.Not = 4
altering_size (operation.Convert Byte Big) = 2
altering_size (operation.Convert Big Byte) = 2
altering_size (operation.Convert from to) = 1
altering_size o = 0

abbrev pub operating_size : Operation → ℕ
operating_size (operation.Arithmetic o k) = 1
operating_size (operation.Shift s k) = 1
operating_size (operation.Compare o k) = 4
operating_size o = 0

-- How many instructions an instruction becomes.
abbrev pub size : Inst → ℕ
size (Move into x) = 1
size (Hand into x) = 1
size (Alter o into x) = altering_size o
size (Operate o into x y) = operating_size o
size (Branch k c x y n) = 1
size (Jump n) = 1
size (Skip n) = 1
size (Back n) = 1
size (Begin f) = 1
size (Call k f n into) = 4
size (Format ps) = 1
size (Print n into) = 5
size (Return x) = 2
size Leave = 2

abbrev pub sizes : List Inst → ℕ
sizes [] = 0
sizes (i ∷ is) = size i + sizes is

-- Where the code of the instruction at a place begins.
abbrev pub start : List Inst → (pc : ℕ) → ℕ
start is pc = sizes (take pc is)

abbrev pub place : Context → (pc : ℕ) → ℕ
place c pc = c.base + start c.function.code pc

abbrev pub to_place : Context → (pc : ℕ) → isa.Operand
to_place c pc = operand.Imm (pos (place c pc))

-- ---- calls and prints

-- The word for the address of the frame that is made, and a byte of that frame.
abbrev pub made_word : Context → isa.Operand
made_word c = own c.room.made

abbrev pub in_made : Context → ℕ → isa.Operand
in_made c at = operand.IndFp (pos c.room.made) (pos at)

-- So many bytes are moved, where one or more words are.
abbrev pub bytes_data : ℕ → List Datum
bytes_data n = unless_fits (fits_middle (pos n)) (Word (pos n))

abbrev pub moved : ℕ → isa.Operand → isa.Operand → (at : ℕ) → code_inst.Inst
moved n s d at = inst op.Movm s (number_middle (fits_middle (pos n)) (pos n) at) d

-- The arguments of a callee begin with zeros. They stand behind those of the others.
abbrev pub zeroed : Context → List Callee → Callee → (at : ℕ) → code_inst.Inst
zeroed c made callee at =
    moved (argument_bytes c.functions callee) (operand.Mp (pos c.zeros)) (own (block_place c.functions c.room made)) at

-- They go to the frame that is made.
abbrev pub passed : Context → List Callee → Callee → (at : ℕ) → code_inst.Inst
passed c made callee at =
    moved (argument_bytes c.functions callee) (own (block_place c.functions c.room made)) (in_made c (first_place callee)) at

-- The address of the place for the answer goes there too.
abbrev pub answer_to : Context → List Callee → Spot → code_inst.Inst
answer_to c made into = inst op.Lea (place_of c made into) middle.None (in_made c answer_place)

-- A frame of a type, by the type's number: the module's data are type 0, and the frames of the functions follow.
abbrev pub frame_type : (function : ℕ) → ℤ
frame_type f = pos (suc f)

abbrev pub framed : Context → ℤ → code_inst.Inst
framed c type = inst op.Frame (operand.Imm type) middle.None (made_word c)

-- A call is for what was begun last. The text of a print's format is the first of its own data, and the number of bytes that its arguments
-- take is the next.
abbrev pub calling : Context → (at : ℕ) → (function : ℕ) → Spot → List Callee → Code
calling c at f into [] = []
calling c at f into (callee ∷ made) =
    framed c (frame_type f) ∷ passed c made callee at ∷ answer_to c made into
    ∷ inst op.Call (made_word c) middle.None (operand.Imm (pos (c.entries f))) ∷ []

abbrev pub printing : Context → (at : ℕ) → Spot → List Callee → Code
printing c at into [] = []
printing c at into (callee ∷ made) =
    framed c c.print_type ∷ inst op.Movp (operand.Mp (pos at)) middle.None (in_made c 32) ∷ passed c made callee (at + 4)
    ∷ answer_to c made into ∷ inst op.Mcall (made_word c) (middle.Imm (pos 16)) sys_word ∷ []

-- An answer goes to the address that stands at 16 of the frame, and the function returns.
abbrev pub answer : Kind → isa.Operand → Code
answer k s =
    moving k s (operand.IndFp (pos answer_place) (pos 0)) ∷ inst op.Ret operand.None middle.None operand.None ∷ []

-- ---- the code of an instruction

abbrev pub spot_kind : Spot → Kind
spot_kind (Variable k x) = k
spot_kind (Global k x) = k
spot_kind (Temporary k n) = k
spot_kind (Argument k i) = k

abbrev pub callee_text : Callee → List Datum
callee_text (Calls f) = []
callee_text (Prints ps) = Text (format_text ps) ∷ []

abbrev pub passing_data : List Function → List Callee → List Datum
passing_data fs [] = []
passing_data fs (c ∷ cs) = callee_text c ++ bytes_data (argument_bytes fs c)

-- The data of an instruction that stands where these are being made ready, in a function whose answer is of a kind.
abbrev pub data_of : List Function → Kind → List Callee → Inst → List Datum
data_of fs k made (Move into x) = source_data (spot_kind into) x
data_of fs k made (Hand into x) = source_data (spot_kind into) x
data_of fs k made (Alter o into x) = source_data (operand_kind o) x
data_of fs k made (Operate o into x y) = operation_data o x y
data_of fs k made (Branch j c x y n) = source_data j x ++ middle_data j y
data_of fs k made (Begin f) = bytes_data (argument_bytes fs (Calls f))
data_of fs k made (Format ps) = bytes_data (argument_bytes fs (Prints ps))
data_of fs k made (Call j f n into) = passing_data fs made
data_of fs k made (Print n into) = passing_data fs made
data_of fs k made (Return x) = source_data k x
data_of fs k made i = []

-- The code of the instruction at a place, where these are being made ready; its data stand from a place on.
abbrev pub inst_code : Context → (pc at : ℕ) → List Callee → Inst → Code
inst_code c pc at made (Move into x) = moving (spot_kind into) (source c x at) (place_of c made into) ∷ []
inst_code c pc at made (Hand into x) = moving (spot_kind into) (source c x at) (place_of c made into) ∷ []
inst_code c pc at made (Alter o into x) = altering (place c pc) o (source c x at) (place_of c made into)
inst_code c pc at made (Operate o into x y) = operating c (place c pc) at o x y (place_of c made into)
inst_code c pc at made (Branch k o x y n) =
    inst (branch_op o k) (source c x at) (middle_of c y (at + data_bytes (source_data k x))) (to_place c (suc pc + n)) ∷ []
inst_code c pc at made (Jump n) = jump_to (place c (suc pc + n)) ∷ []
inst_code c pc at made (Skip n) = jump_to (place c (suc pc + n)) ∷ []
inst_code c pc at made (Back n) = jump_to (place c (pc - n)) ∷ []
inst_code c pc at made (Begin f) = zeroed c made (Calls f) at ∷ []
inst_code c pc at made (Format ps) = zeroed c made (Prints ps) at ∷ []
inst_code c pc at made (Call k f n into) = calling c at f into made
inst_code c pc at made (Print n into) = printing c at into made
inst_code c pc at made (Return x) = answer c.function.answer (source c x at)
inst_code c pc at made Leave = answer c.function.answer (operand.Imm (pos 0))

-- The code of these instructions, which stand from a place on.
abbrev pub insts_code : Context → (pc at : ℕ) → List Callee → List Inst → Code
insts_code c pc at made [] = []
insts_code c pc at made (i ∷ is) =
    inst_code c pc at made i
    ++ insts_code c (suc pc) (at + data_bytes (data_of c.functions c.function.answer made i)) (made_by made i) is

abbrev pub insts_data : List Function → Kind → List Callee → List Inst → List Datum
insts_data fs k made [] = []
insts_data fs k made (i ∷ is) = data_of fs k made i ++ insts_data fs k (made_by made i) is
