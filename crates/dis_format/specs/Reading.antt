-- The fields of an object file in the order of the bytes. Each is read from the front, to a value and the bytes after
-- it, or is refused: the first faulty field decides.
use Rattle.std.specs.Prelude.{◌≡◌, ℕ, zero, suc, ◌-◌, ◌*◌, ◌/◌, ◌%◌, ℤ, pos, negsuc, Bool, false, ◌&&◌, ◌||◌, ◌==◌}
use Rattle.std.specs.Prelude.{List, [], ◌∷◌, length, take, drop, Option, Some, None, Result, Ok, Err, nat_lt, nat_le}
use Rattle.std.specs.Prelude.{if◌then◌else◌, slice_index, ◌<◌}
use Rattle.std.specs.Str.{chars, is_utf8}
use Rattle.byteorder.specs.Endian.{big_number}
use Rattle.inf_text.specs.Steps as steps
use Rattle.inf_text.specs.Steps.{◌>>=◌}
use Rattle.dis_isa.specs.declared.inst.Inst.{Inst}
use Rattle.dis_isa.specs.declared.inst.Operand.{Operand}
use Rattle.dis_isa.specs.declared.inst.Operand.TheVariants as operand
use Rattle.dis_isa.specs.declared.inst.Middle.{Middle}
use Rattle.dis_isa.specs.declared.inst.Middle.TheVariants as middle
use Rattle.dis_isa.specs.Opcodes.{opcode_at}
use Rattle.dis_isa.specs.declared.op.Op.{Op}
use Rattle.dis_file.specs.declared.object.Object.{Object}
use Rattle.dis_file.specs.declared.object.Item.{Item}
use Rattle.dis_file.specs.declared.object.LinkEntry.{LinkEntry}
use Rattle.dis_file.specs.declared.object.Import.{Import}
use Rattle.dis_file.specs.declared.object.Catch.{Catch}
use Rattle.dis_file.specs.declared.object.CatchArm.{CatchArm}
use Rattle.dis_file.specs.declared.types.TypeDesc.{TypeDesc}
use Rattle.dis_format.specs.declared.fault.Cause.{Cause}
use Rattle.dis_format.specs.declared.fault.Cause.TheVariants.{Short, Magic, Signed, BadOperand, BadOpcode}
use Rattle.dis_format.specs.declared.fault.Cause.TheVariants.{BadType, BadData, BadLink, Trailing, BadFlags}
use Rattle.dis_format.specs.declared.fault.Refusal.{Refusal}
use Rattle.dis_format.specs.declared.fault.FileFault.{FileFault}
use Rattle.dis_format.specs.declared.fault.ReadFault.{ReadFault}
use Rattle.dis_format.specs.declared.fault.ReadFault.TheVariants as read
use Rattle.dis_format.specs.Answers.{placed}
use Rattle.dis_format.specs.declared.header.Header.{Header}
use Rattle.dis_format.specs.declared.kind.ItemKind.{ItemKind}
use Rattle.dis_format.specs.declared.kind.ItemKind.TheVariants.{Text, Array, Enter}
use Rattle.dis_format.specs.Operands.{Form, one_byte, two_bytes, four_bytes, width, bits, mark}
use Rattle.dis_format.specs.Operands.{signed, Range, any, from_zero, short_number, short_offset, within}
use Rattle.dis_format.specs.Parts.{magic, signed_magic, has_imports, has_catches}
use Rattle.dis_format.specs.Loading.{Loading, opening, kind_of, content_size, size_of, is_none}
use Rattle.dis_format.specs.Loading.{leaves_one, offset_stands, index_stands, entered, after}
use Rattle.dis_format.specs.Objects.{flags_stand, map_stands, size_stands}

-- What a reader of a field gives.
abbrev pub Read : Type 0 → Type 0
Read A = Result (A × List ℕ) Refusal

-- The field that these bytes begin with is faulty.
abbrev pub refused : {A : Type 0} → Cause → List ℕ → Result A Refusal
refused cause bytes = Err (record { cause = cause; left = length bytes })

-- ---- single fields

abbrev pub byte_at : List ℕ → Read ℕ
byte_at [] = refused Short []
byte_at (b ∷ bytes) = Ok (b, bytes)

unfoldable pub below_at : ℕ → List ℕ → Read ℕ
below_at limit bytes = do
  b ← byte_at bytes
  if nat_lt b.0 limit then Ok b else refused BadOperand bytes

-- So many bytes.
abbrev pub bytes_at : ℕ → List ℕ → Read (List ℕ)
bytes_at count bytes = if nat_lt (length bytes) count then refused Short bytes else Ok (take count bytes, drop count bytes)

-- 4 bytes, the high one first.
abbrev pub word_at : List ℕ → Read ℕ
word_at bytes = if nat_lt (length bytes) 4 then refused Short bytes else Ok (big_number 4 bytes, drop 4 bytes)

-- The form that the top two bits of the first byte say.
abbrev pub form_of : ℕ → Form
form_of b = if nat_lt b 128 then one_byte else (if nat_lt b 192 then two_bytes else four_bytes)

abbrev pub in_form : Form → List ℕ → Read ℤ
in_form form bytes =
    if nat_lt (length bytes) (width form) then refused Short bytes
    else Ok (signed (bits form) (big_number (width form) bytes - mark form), drop (width form) bytes)

unfoldable pub operand_at : List ℕ → Read ℤ
operand_at [] = refused Short []
operand_at (b ∷ bytes) = in_form (form_of b) (b ∷ bytes)

unfoldable pub number_at : Range → List ℕ → Read ℤ
number_at range bytes = do
  n ← operand_at bytes
  if within range n.0 then Ok n else refused BadOperand bytes

-- A count, size, pc, type number or offset.
abbrev pub size : ℤ → ℕ
size (pos n) = n
size (negsuc n) = 0

unfoldable pub natural_at : List ℕ → Read ℕ
natural_at bytes = do
  n ← number_at from_zero bytes
  Ok (size n.0, n.1)

-- The characters of so many bytes.
unfoldable pub utf8_at : ℕ → List ℕ → Read (List ℕ)
utf8_at count bytes = do
  own ← bytes_at count bytes
  if is_utf8 own.0 then Ok (chars own.0, own.1) else refused BadData bytes

-- How many bytes there are before the first one that is 0, where there is one.
abbrev pub before_zero : List ℕ → Option ℕ
before_zero [] = None
before_zero (b ∷ bytes) = if b == 0 then Some 0 else elim (before_zero bytes) [ Some n ↦ Some (suc n) | None ↦ None ]

-- The characters up to a byte 0.
abbrev pub name_before : Option ℕ → List ℕ → Read (List ℕ)
name_before None bytes = refused Short bytes
name_before (Some n) bytes =
    if is_utf8 (take n bytes) then Ok (chars (take n bytes), drop (suc n) bytes) else refused BadData bytes

unfoldable pub name_at : List ℕ → Read (List ℕ)
name_at bytes = name_before (before_zero bytes) bytes

-- So many items, one after the other.
unfoldable pub many : {A : Type 0} → (List ℕ → Read A) → ℕ → List ℕ → Read (List A)
many item_at zero bytes = Ok ([], bytes)
many item_at (suc n) bytes = do
  first ← item_at bytes
  others ← many item_at n first.1
  Ok (first.0 ∷ others.0, others.1)

-- Items behind their count.
unfoldable pub counted_at : {A : Type 0} → (List ℕ → Read A) → List ℕ → Read (List A)
counted_at item_at bytes = do
  n ← natural_at bytes
  many item_at n.0 n.1

-- ---- header

abbrev pub is_number : ℤ → ℕ → Bool
is_number (pos n) m = n == m
is_number (negsuc n) m = false

unfoldable pub magic_at : List ℕ → Read (Unit {0})
magic_at bytes = do
  n ← operand_at bytes
  if is_number n.0 magic then Ok (tt, n.1) else
      (if is_number n.0 signed_magic then refused Signed bytes else refused Magic bytes)

unfoldable pub flags_at : List ℕ → Read ℕ
flags_at bytes = do
  n ← operand_at bytes
  if within from_zero n.0 && flags_stand (size n.0) then Ok (size n.0, n.1) else refused BadFlags bytes

unfoldable pub data_size_at : List ℕ → Read ℕ
data_size_at bytes = do
  n ← natural_at bytes
  if nat_le n.0 268435456 then Ok n else refused BadData bytes

-- Where there is data, there is a type.
unfoldable pub type_count_at : ℕ → List ℕ → Read ℕ
type_count_at data_size bytes = do
  n ← natural_at bytes
  if data_size == 0 || nat_lt 0 n.0 then Ok n else refused BadType bytes

unfoldable pub header_at : List ℕ → Read Header
header_at bytes = do
  first ← magic_at bytes
  flags ← flags_at first.1
  stack ← natural_at flags.1
  code ← natural_at stack.1
  data_size ← data_size_at code.1
  types ← type_count_at data_size.0 data_size.1
  links ← natural_at types.1
  entry_pc ← natural_at links.1
  entry_type ← natural_at entry_pc.1
  Ok (
    record {
      flags = flags.0;
      stack = stack.0;
      code = code.0;
      data_size = data_size.0;
      types = types.0;
      links = links.0;
      entry_pc = entry_pc.0;
      entry_type = entry_type.0;
    },
    entry_type.1,
  )

-- ---- code

abbrev pub op_here : Option Op → List ℕ → List ℕ → Read Op
op_here None bytes rest = refused BadOpcode bytes
op_here (Some op) bytes rest = Ok (op, rest)

unfoldable pub opcode_here : List ℕ → Read Op
opcode_here bytes = do
  b ← byte_at bytes
  op_here (opcode_at b.0) bytes b.1

-- What a middle operand is by its two bits, and another one by its three bits, of which 6 and 7 have no meaning.
abbrev pub middle_at : ℕ → List ℕ → Read Middle
middle_at zero bytes = Ok (middle.None, bytes)
middle_at (suc zero) bytes = do
  n ← number_at short_number bytes
  Ok (middle.Imm n.0, n.1)
middle_at (suc (suc zero)) bytes = do
  n ← number_at short_offset bytes
  Ok (middle.Fp n.0, n.1)
middle_at (suc (suc (suc mode))) bytes = do
  n ← number_at short_offset bytes
  Ok (middle.Mp n.0, n.1)

abbrev pub mode_stands : ℕ → Bool
mode_stands mode = nat_lt mode 6

abbrev pub operand_of : ℕ → List ℕ → Read Operand
operand_of zero bytes = do
  n ← number_at from_zero bytes
  Ok (operand.Mp n.0, n.1)
operand_of (suc zero) bytes = do
  n ← number_at from_zero bytes
  Ok (operand.Fp n.0, n.1)
operand_of (suc (suc zero)) bytes = do
  n ← number_at any bytes
  Ok (operand.Imm n.0, n.1)
operand_of (suc (suc (suc zero))) bytes = Ok (operand.None, bytes)
operand_of (suc (suc (suc (suc zero)))) bytes = do
  inner ← number_at from_zero bytes
  outer ← number_at from_zero inner.1
  Ok (operand.IndMp inner.0 outer.0, outer.1)
operand_of (suc (suc (suc (suc (suc mode))))) bytes = do
  inner ← number_at from_zero bytes
  outer ← number_at from_zero inner.1
  Ok (operand.IndFp inner.0 outer.0, outer.1)

unfoldable pub address_at : List ℕ → Read ℕ
address_at bytes = do
  b ← byte_at bytes
  if mode_stands (b.0 / 8 % 8) && mode_stands (b.0 % 8) then Ok b else refused BadOperand bytes

unfoldable pub inst_at : List ℕ → Read Inst
inst_at bytes = do
  op ← opcode_here bytes
  address ← address_at op.1
  middle ← middle_at (address.0 / 64) address.1
  src ← operand_of (address.0 / 8 % 8) middle.1
  dst ← operand_of (address.0 % 8) src.1
  Ok (record { op = op.0; middle = middle.0; src = src.0; dst = dst.0 }, dst.1)

-- ---- types

-- The number of a type is its place.
unfoldable pub place_at : ℕ → List ℕ → Read ℕ
place_at place bytes = do
  n ← natural_at bytes
  if n.0 == place then Ok n else refused BadType bytes

unfoldable pub type_size_at : ℕ → ℕ → List ℕ → Read ℕ
type_size_at data_size place bytes = do
  n ← natural_at bytes
  if size_stands data_size place n.0 then Ok n else refused BadType bytes

unfoldable pub map_at : ℕ → ℕ → List ℕ → Read (List ℕ)
map_at words count bytes = do
  map ← bytes_at count bytes
  if map_stands words map.0 then Ok map else refused BadType bytes

unfoldable pub type_at : ℕ → ℕ → List ℕ → Read TypeDesc
type_at data_size place bytes = do
  number ← place_at place bytes
  bytes_taken ← type_size_at data_size place number.1
  len ← natural_at bytes_taken.1
  map ← map_at (bytes_taken.0 / 4) len.0 len.1
  Ok (record { size = bytes_taken.0; map = map.0 }, map.1)

-- So many types, numbered from a place on.
unfoldable pub types_at : ℕ → ℕ → ℕ → List ℕ → Read (List TypeDesc)
types_at data_size place zero bytes = Ok ([], bytes)
types_at data_size place (suc n) bytes = do
  first ← type_at data_size place bytes
  others ← types_at data_size (suc place) n first.1
  Ok (first.0 ∷ others.0, others.1)

-- ---- data

-- The kind of the item whose first byte is this.
abbrev pub kind_here : Loading → Option ItemKind → List ℕ → List ℕ → Read ItemKind
kind_here s None bytes rest = refused BadData bytes
kind_here s (Some kind) bytes rest = if leaves_one s kind then Ok (kind, rest) else refused BadData bytes

unfoldable pub item_kind_at : Loading → List ℕ → Read ItemKind
item_kind_at s bytes = do
  first ← byte_at bytes
  kind_here s (kind_of (first.0 / 16)) bytes first.1

-- A count of 0 in the first byte says that the count follows.
unfoldable pub count_at : ℕ → List ℕ → Read ℕ
count_at zero bytes = natural_at bytes
count_at (suc low) bytes = Ok (suc low, bytes)

unfoldable pub offset_at : List TypeDesc → Loading → ItemKind → ℕ → List ℕ → Read ℕ
offset_at types s kind count bytes = do
  n ← natural_at bytes
  if offset_stands types s kind count n.0 then Ok n else refused BadData bytes

unfoldable pub string_at : ℕ → List ℕ → Read (List ℕ)
string_at count bytes = do
  own ← bytes_at count bytes
  if is_utf8 own.0 then Ok own else refused BadData bytes

-- The number of the elements' type, and the length.
unfoldable pub array_kind_at : List TypeDesc → List ℕ → Read ℕ
array_kind_at types bytes = do
  n ← word_at bytes
  if nat_lt n.0 (length types) then Ok n else refused BadData bytes

unfoldable pub array_length_at : List TypeDesc → ℕ → List ℕ → Read ℕ
array_length_at types kind bytes = do
  n ← word_at bytes
  if nat_le (size_of types kind * n.0) 268435456 then Ok n else refused BadData bytes

unfoldable pub new_array_at : List TypeDesc → List ℕ → Read (List ℕ)
new_array_at types bytes = do
  kind ← array_kind_at types bytes
  len ← array_length_at types kind.0 kind.1
  Ok (take 8 bytes, len.1)

unfoldable pub index_at : Loading → ℕ → List ℕ → Read (List ℕ)
index_at s offset bytes = do
  n ← word_at bytes
  if index_stands (entered s offset) n.0 then Ok (take 4 bytes, n.1) else refused BadData bytes

abbrev pub content_at : List TypeDesc → Loading → ItemKind → ℕ → ℕ → List ℕ → Read (List ℕ)
content_at types s Text count offset bytes = string_at count bytes
content_at types s Array count offset bytes = new_array_at types bytes
content_at types s Enter count offset bytes = index_at s offset bytes
content_at types s kind count offset bytes = bytes_at (content_size kind count) bytes

unfoldable pub item_at : List TypeDesc → Loading → List ℕ → Read Item
item_at types s bytes = do
  kind ← item_kind_at s bytes
  first ← byte_at bytes
  count ← count_at (first.0 % 16) kind.1
  offset ← offset_at types s kind.0 count.0 count.1
  content ← content_at types s kind.0 count.0 offset.0 offset.1
  Ok (record { kind = first.0 / 16; count = count.0; offset = offset.0; content = content.0 }, content.1)

-- A byte 0 ends the items. No array may be open there.
abbrev pub end_at : Loading → List ℕ → List ℕ → Read (List Item)
end_at s bytes rest = if is_none s.back then Ok ([], rest) else refused BadData bytes

-- Items up to a byte 0. There are fewer of them than bytes.
unfoldable pub items_at : List TypeDesc → ℕ → Loading → List ℕ → Read (List Item)
items_at types zero s bytes = refused Short bytes
items_at types (suc n) s bytes = do
  first ← byte_at bytes
  if first.0 == 0 then end_at s bytes first.1 else (do
    i ← item_at types s bytes
    others ← items_at types n (after types s i.0) i.1
    Ok (i.0 ∷ others.0, others.1))

unfoldable pub data_at : List TypeDesc → ℕ → List ℕ → Read (List Item)
data_at types data_size bytes = items_at types (length bytes) (opening data_size) bytes

-- ---- names, links, imports, catches

-- A number below a limit, of an instruction or a type that a link names.
unfoldable pub linked_at : ℕ → List ℕ → Read ℕ
linked_at limit bytes = do
  n ← natural_at bytes
  if nat_lt n.0 limit then Ok n else refused BadLink bytes

unfoldable pub link_at : ℕ → ℕ → List ℕ → Read LinkEntry
link_at code types bytes = do
  pc ← linked_at code bytes
  frame ← linked_at types pc.1
  sign ← word_at frame.1
  name ← name_at sign.1
  Ok (record { pc = pc.0; frame = frame.0; sign = sign.0; name = name.0 }, name.1)

unfoldable pub import_at : List ℕ → Read Import
import_at bytes = do
  sign ← word_at bytes
  name ← name_at sign.1
  Ok (record { sign = sign.0; name = name.0 }, name.1)

unfoldable pub arm_at : List ℕ → Read CatchArm
arm_at bytes = do
  kind ← below_at 4 bytes
  len ← natural_at kind.1
  text ← utf8_at len.0 len.1
  pc ← natural_at text.1
  Ok (record { kind = kind.0; text = text.0; pc = pc.0 }, pc.1)

unfoldable pub catch_at : List ℕ → Read Catch
catch_at bytes = do
  first ← natural_at bytes
  end ← natural_at first.1
  offset ← natural_at end.1
  arms ← counted_at arm_at offset.1
  Ok (record { first = first.0; end = end.0; offset = offset.0; arms = arms.0 }, arms.1)

-- A section that is there where a flag says so.
unfoldable pub section_at : {A : Type 0} → Bool → (List ℕ → Read A) → List ℕ → Read (List A)
section_at there item_at bytes = if there then counted_at item_at bytes else Ok ([], bytes)

-- ---- the object

pub record Body : Type 0 where
  pub insts : List Inst
  pub types : List TypeDesc
  pub items : List Item
  pub name : List ℕ
  pub links : List LinkEntry

unfoldable pub body_at : Header → List ℕ → Read Body
body_at h bytes = do
  insts ← many inst_at h.code bytes
  types ← types_at h.data_size 0 h.types insts.1
  items ← data_at types.0 h.data_size types.1
  name ← name_at items.1
  links ← many (link_at h.code h.types) h.links name.1
  Ok (
    record {
      insts = insts.0;
      types = types.0;
      items = items.0;
      name = name.0;
      links = links.0;
    },
    links.1,
  )

unfoldable pub fields_at : List ℕ → Read Object
fields_at bytes = do
  h ← header_at bytes
  b ← body_at h.0 h.1
  imports ← section_at (has_imports h.0.flags) (counted_at import_at) b.1
  catches ← section_at (has_catches h.0.flags) catch_at imports.1
  Ok (
    record {
      flags = h.0.flags;
      stack = h.0.stack;
      data_size = h.0.data_size;
      entry_pc = h.0.entry_pc;
      entry_type = h.0.entry_type;
      insts = b.0.insts;
      types = b.0.types;
      items = b.0.items;
      «module» = b.0.name;
      links = b.0.links;
      imports = imports.0;
      catches = catches.0;
    },
    catches.1,
  )

-- All of the bytes.
unfoldable pub object_at : List ℕ → Result Object Refusal
object_at bytes = do
  o ← fields_at bytes
  if length o.1 == 0 then Ok o.0 else refused Trailing o.1

abbrev pub AreBytes : List ℕ → Type 0
AreBytes bytes = (i : ℕ) → slice_index bytes i < 256

-- The refusal is that of the first faulty field, at its place in all of the bytes.
abbrev pub IsFirstFault : List ℕ → FileFault → Type 0
IsFirstFault bytes e = (r : Refusal) × ((object_at bytes ≡ Err r) × (e ≡ placed bytes r))

-- The refusal that a fault tells, if it isn't want of memory.
abbrev pub refusal_of : ReadFault → Option Refusal
refusal_of read.NoMemory = None
refusal_of (read.Refused r) = Some r

-- What a reader answered, seen by view, is what is stated, unless memory ran out.
abbrev pub FailsAs : {Y : Type 0} → ReadFault → Result Y Refusal → Type 0
FailsAs fault stated = steps.Refuses (refusal_of fault) stated

abbrev pub Gives : {X Y : Type 0} → (X → Y) → Result X ReadFault → Result Y Refusal → Type 0
Gives view result stated = steps.Gives refusal_of view result stated
