-- The object of a module of three-address code (dis(6)).
use Rattle.std.specs.Prelude.{ℕ, zero, suc, ℤ, pos, ◌+◌, ◌^◌, max, Bool, true, false, if◌then◌else◌, Option, Some, None}
use Rattle.std.specs.Prelude.{List, [], ◌∷◌, ◌++◌, length, map, drop, replicate, codes, encode_utf8_all}
use Rattle.std.specs.Str.{bytes_eq}
use Rattle.std.specs.Int.{to_be_bytes, cast_unsigned, w32, w64}
use Rattle.dis_isa.specs.declared.inst.Middle.TheVariants as middle
use Rattle.dis_isa.specs.declared.inst.Operand.TheVariants as operand
use Rattle.dis_isa.specs.declared.op.Op.TheVariants as op
use Rattle.dis_file.specs.declared.object.Item.{Item}
use Rattle.dis_file.specs.declared.object.Import.{Import}
use Rattle.dis_file.specs.declared.object.LinkEntry.{LinkEntry}
use Rattle.dis_file.specs.declared.object.Object.{Object}
use Rattle.dis_file.specs.declared.types.TypeDesc.{TypeDesc}
use Rattle.limbo_values.specs.declared.number.Kind.{Kind}
use Rattle.limbo_values.specs.declared.number.Kind.TheVariants.{Byte, Int, Big}
use Rattle.slot_code.specs.Code.{Inst, Begin, Format, Function, GlobalVariable, Module}
use Rattle.slot_code.specs.Layout.{end_of}
use Rattle.dis_objects.specs.Frames.{Calls, Prints, room_of, whole, linkage_bytes, reference_words, print_parameters}
use Rattle.dis_objects.specs.Frames.{argument_bytes}
use Rattle.dis_objects.specs.Code.{Code, Datum, Text, Word, Long, datum_bytes, data_bytes, Context, inst, own, path_word, sys_word}
use Rattle.dis_objects.specs.Code.{frame_type, sizes, insts_code, insts_data, globals_place, global_bytes, globals_bytes}

-- ---- code

-- The function of this name, the first of them, by its number, where there is one.
abbrev pub find : (from : ℕ) → List ℕ → List Function → Option ℕ
find n name [] = None
find n name (f ∷ fs) = if bytes_eq f.name name then Some n else find (suc n) name fs

abbrev pub init_of : Module → Option ℕ
init_of m = find 0 (codes "init") m.functions

abbrev pub entry_length : Option ℕ → ℕ
entry_length None = 1
entry_length (Some n) = 3

-- The code begins with three instructions that load Sys, give the first function's answer a place that nobody reads, and go to `init`;
-- or, where there is no `init`, with one that ends the process.
abbrev pub entry_size : List Function → ℕ
entry_size fs = entry_length (find 0 (codes "init") fs)

-- How many instructions the functions before this one have, and how many bytes of data.
abbrev pub size_before : List Function → ℕ → ℕ
size_before fs zero = 0
size_before [] (suc n) = 0
size_before (f ∷ fs) (suc n) = sizes f.code + size_before fs n

abbrev pub base_of : List Function → ℕ → ℕ
base_of fs f = entry_size fs + size_before fs f

-- ---- the module's data

abbrev pub function_data : List Function → Function → List Datum
function_data fs f = insts_data fs f.answer [] f.code

abbrev pub functions_data : (all : List Function) → List Function → List Datum
functions_data all [] = []
functions_data all (f ∷ fs) = function_data all f ++ functions_data all fs

-- Behind the path and the module: the module's variables, the data of the functions, and zeros.
abbrev pub data_place : Module → ℕ
data_place m = globals_place + globals_bytes m.globals

abbrev pub zeros_place : Module → ℕ
zeros_place m = data_place m + data_bytes (functions_data m.functions m.functions)

-- As many zeros as any callee has arguments.
abbrev pub callee_bytes : List Function → Inst → ℕ
callee_bytes fs (Begin f) = argument_bytes fs (Calls f)
callee_bytes fs (Format ps) = argument_bytes fs (Prints ps)
callee_bytes fs i = 0

abbrev pub most_callee : List Function → List Inst → ℕ
most_callee fs [] = 0
most_callee fs (i ∷ is) = max (callee_bytes fs i) (most_callee fs is)

abbrev pub zeros_bytes : (all : List Function) → List Function → ℕ
zeros_bytes all [] = 0
zeros_bytes all (f ∷ fs) = max (most_callee all f.code) (zeros_bytes all fs)

abbrev pub data_size : Module → ℕ
data_size m = zeros_place m + zeros_bytes m.functions m.functions

abbrev pub context : Module → (number : ℕ) → Function → Context
context m n f = record {
  functions = m.functions;
  globals = m.globals;
  entries = base_of m.functions;
  print_type = frame_type (length m.functions);
  zeros = zeros_place m;
  function = f;
  room = room_of m.functions f;
  base = base_of m.functions n;
}

-- The code of these functions, which have the numbers from n on, and whose data stand from a place on.
abbrev pub functions_code : Module → (number at : ℕ) → List Function → Code
functions_code m n at [] = []
functions_code m n at (f ∷ fs) =
    insts_code (context m n f) 0 at [] f.code ++ functions_code m (suc n) (at + data_bytes (function_data m.functions f)) fs

-- The entry of a module whose `init` is this function. A module without one ends at once.
abbrev pub begins : (base : ℕ) → Code
begins base =
    inst op.Load path_word (middle.Imm (pos 0)) sys_word ∷ inst op.Lea (own 20) middle.None (own 16)
    ∷ inst op.Jmp operand.None middle.None (operand.Imm (pos base)) ∷ []

abbrev pub ends_at_once : Code
ends_at_once = inst op.Ret operand.None middle.None operand.None ∷ []

abbrev pub entry : List Function → Option ℕ → Code
entry fs None = ends_at_once
entry fs (Some n) = begins (base_of fs n)

-- ---- types

-- A map's bits, from the top of a byte on.
abbrev pub bit : Bool → ℕ → ℕ
bit true n = 2 ^ n
bit false n = 0

abbrev pub bits : (most : ℕ) → List Bool → ℕ
bits zero bs = 0
bits (suc n) [] = 0
bits (suc n) (b ∷ bs) = bit b n + bits n bs

abbrev pub bytes_of : (tries : ℕ) → List Bool → List ℕ
bytes_of zero bs = []
bytes_of (suc n) [] = []
bytes_of (suc n) (b ∷ bs) = bits 8 (b ∷ bs) ∷ bytes_of n (drop 8 (b ∷ bs))

-- The map of a type with these reference words.
abbrev pub map_of : List Bool → List ℕ
map_of bs = bytes_of (length bs) bs

abbrev pub frame_desc : List Function → Function → TypeDesc
frame_desc fs f = record { size = (room_of fs f).size; map = map_of (reference_words f.variables) }

-- How many bytes the frame of a print has, over the prints of a code: its format and its arguments.
abbrev pub print_bytes : Inst → ℕ
print_bytes (Format ps) = whole (end_of linkage_bytes (print_parameters ps))
print_bytes i = 36

abbrev pub most_printed : List Inst → ℕ
most_printed [] = 36
most_printed (i ∷ is) = max (print_bytes i) (most_printed is)

abbrev pub most_of_all : List Function → ℕ
most_of_all [] = 36
most_of_all (f ∷ fs) = max (most_printed f.code) (most_of_all fs)

-- The frame of a print: its format, and as many bytes as any print has.
abbrev pub print_desc : List Function → TypeDesc
print_desc fs = record { size = most_of_all fs; map = map_of (replicate 8 false ++ true ∷ []) }

-- Which words of the module's data refer: the path, the module, variables that refer, and texts.
abbrev pub global_words : Option Kind → List Bool
global_words None = true ∷ []
global_words (Some Big) = false ∷ false ∷ []
global_words (Some k) = false ∷ []

abbrev pub globals_words : List GlobalVariable → List Bool
globals_words [] = []
globals_words (g ∷ gs) = global_words g.kind ++ globals_words gs

abbrev pub datum_words : Datum → List Bool
datum_words (Text t) = true ∷ []
datum_words (Word z) = false ∷ []
datum_words (Long z) = false ∷ false ∷ []

abbrev pub data_words : List Datum → List Bool
data_words [] = []
data_words (d ∷ ds) = datum_words d ++ data_words ds

abbrev pub data_desc : Module → TypeDesc
data_desc m = record {
  size = data_size m;
  map = map_of (true ∷ true ∷ (globals_words m.globals ++ data_words (functions_data m.functions m.functions)));
}

-- ---- items

abbrev pub string_item : (offset : ℕ) → List ℕ → Item
string_item offset text = record { kind = 3; count = length (encode_utf8_all text); offset = offset; content = encode_utf8_all text }

-- A number takes four bytes, the high one first, and a big eight, as two words.
abbrev pub word_item : (offset : ℕ) → ℤ → Item
word_item offset z = record { kind = 2; count = 1; offset = offset; content = to_be_bytes w32 (cast_unsigned w32 z) }

abbrev pub long_item : (offset : ℕ) → ℤ → Item
long_item offset z = record { kind = 2; count = 2; offset = offset; content = to_be_bytes w64 (cast_unsigned w64 z) }

abbrev pub item_of : (offset : ℕ) → Datum → Item
item_of offset (Text t) = string_item offset t
item_of offset (Word z) = word_item offset z
item_of offset (Long z) = long_item offset z

abbrev pub items_from : (offset : ℕ) → List Datum → List Item
items_from offset [] = []
items_from offset (d ∷ ds) = item_of offset d ∷ items_from (offset + datum_bytes d) ds

-- A variable of the module begins with its number; one that refers, with nothing.
abbrev pub global_items : (offset : ℕ) → GlobalVariable → List Item
global_items offset g = elim g.kind [
  | None ↦ []
  | Some k ↦ elim k [
    | Byte ↦ word_item offset g.initial ∷ []
    | Int ↦ word_item offset g.initial ∷ []
    | Big ↦ long_item offset g.initial ∷ []
  ]
]

abbrev pub globals_items : (offset : ℕ) → List GlobalVariable → List Item
globals_items offset [] = []
globals_items offset (g ∷ gs) = global_items offset g ++ globals_items (offset + global_bytes g.kind) gs

-- ---- links

abbrev pub import : ℕ → List ℕ → Import
import sign name = record { sign = sign; name = name }

-- The functions of Sys, in the order of their declaration, with the three that are built in last; so print is number 16. A signature is
-- the MD5 digest of the function's type text, its four words combined by exclusive or.
abbrev pub sys_imports : List Import
sys_imports =
    import 0x3CCFF274 (codes "open") ∷ import 0x67CC7858 (codes "create") ∷ import 0x68E35D99 (codes "fildes")
    ∷ import 0x0F16C600 (codes "read") ∷ import 0x0F16C600 (codes "write") ∷ import 0x32406BA2 (codes "seek")
    ∷ import 0x7AEE0B4E (codes "stat") ∷ import 0x6FEE5B91 (codes "fstat") ∷ import 0x9C2929D2 (codes "dirread")
    ∷ import 0xC6935858 (codes "remove") ∷ import 0x66326D91 (codes "bind") ∷ import 0x21E337E3 (codes "unmount")
    ∷ import 0xC6935858 (codes "chdir") ∷ import 0x05DF27FB (codes "pctl") ∷ import 0xE57680AB (codes "pipe")
    ∷ import 0x7D129ED3 (codes "tokenize") ∷ import 0x3F3C28DA (codes "print") ∷ import 0x88119A3B (codes "fprint")
    ∷ import 0xD62E2B44 (codes "sprint") ∷ []

-- `init`, where the module has one: fn(ctxt: ref Draw->Context, args: list of string), signed as `f(Ra{unused:i;},Ls)n`.
abbrev pub init_links : Option ℕ → List LinkEntry
init_links None = []
init_links (Some n) = record { pc = 0; frame = suc n; sign = 0x9A253C94; name = codes "init" } ∷ []

-- The type of the frame that the module starts with: that of `init`, or any.
abbrev pub entry_type_of : List Function → Option ℕ → ℕ
entry_type_of fs None = suc (length fs)
entry_type_of fs (Some n) = suc n

-- ---- the object

abbrev pub all_code : Module → Code
all_code m = entry m.functions (init_of m) ++ functions_code m 0 (data_place m) m.functions

abbrev pub object_of : Module → Object
object_of m = record {
  flags = 0x100;
  stack = 0;
  data_size = data_size m;
  entry_pc = 0;
  entry_type = entry_type_of m.functions (init_of m);
  insts = all_code m;
  types = data_desc m ∷ (map (frame_desc m.functions) m.functions ++ print_desc m.functions ∷ []);
  items = string_item 0 (codes "$Sys")
      ∷ (globals_items globals_place m.globals ++ items_from (data_place m) (functions_data m.functions m.functions));
  «module» = m.name;
  links = init_links (init_of m);
  imports = sys_imports ∷ [];
  catches = [];
}

-- How many instructions the code of a module has: its own beginning counts as one.
abbrev pub code_instructions : List Function → ℕ
code_instructions [] = 1
code_instructions (f ∷ fs) = length f.code + code_instructions fs

abbrev pub most_instructions : ℕ
most_instructions = 1048576
