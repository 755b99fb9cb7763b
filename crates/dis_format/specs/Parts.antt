-- The table of the format (dis(6)): an object's parts, one after the other, and which bytes spell a part.
use Rattle.std.specs.Prelude.{◌≡◌, ◌⊎◌, ℕ, suc, ◌+◌, ◌*◌, ◌^◌, ◌<◌, ◌≤◌, ℤ, pos, Bool, true, List, [], ◌∷◌, ◌++◌, length}
use Rattle.std.specs.Prelude.{encode_utf8_all, nat_lt, nat_le, if◌then◌else◌, ◌&&◌, ◌||◌, not, ◌==◌}
use Rattle.std.specs.List.{flat_map}
use Rattle.std.specs.Str.{all_scalars}
use Rattle.byteorder.specs.Endian.{big_bytes}
use Rattle.dis_isa.specs.declared.inst.Inst.{Inst}
use Rattle.dis_isa.specs.declared.inst.Operand.{Operand}
use Rattle.dis_isa.specs.declared.inst.Operand.TheVariants as operand
use Rattle.dis_isa.specs.declared.inst.Middle.{Middle}
use Rattle.dis_isa.specs.declared.inst.Middle.TheVariants as middle
use Rattle.dis_file.specs.declared.object.Object.{Object}
use Rattle.dis_file.specs.declared.object.Item.{Item}
use Rattle.dis_file.specs.declared.object.LinkEntry.{LinkEntry}
use Rattle.dis_file.specs.declared.object.Import.{Import}
use Rattle.dis_file.specs.declared.object.Catch.{Catch}
use Rattle.dis_file.specs.declared.object.CatchArm.{CatchArm}
use Rattle.dis_file.specs.declared.types.TypeDesc.{TypeDesc}
use Rattle.dis_format.specs.Operands.{Form, four_bytes, shortest, fits_form, form_bytes}
use Rattle.dis_format.specs.Operands.{Range, any, from_zero, short_number, short_offset, within}
use Rattle.dis_format.specs.Opcodes.{opcode_of}

-- A part of an object: an opcode or another byte; a byte below a limit; 4 bytes, the high one first; a number in any
-- form; the first byte of an item and its count; the UTF-8 of a text; such a text and a byte 00 behind it; bytes.
pub data Part : Type 0 where
  byte : (b : ℕ) → Part
  below : (limit b : ℕ) → Part
  word : (n : ℕ) → Part
  number : (range : Range) (n : ℤ) → Part
  item : (kind count : ℕ) → Part
  utf8 : (chars : List ℕ) → Part
  name : (chars : List ℕ) → Part
  raw : (bytes : List ℕ) → Part

-- A count, size, pc, type number or offset.
abbrev pub natural : ℕ → Part
natural n = number from_zero (pos n)

-- No character is 0.
abbrev pub no_zero : List ℕ → Bool
no_zero [] = true
no_zero (c ∷ cs) = not (c == 0) && no_zero cs

-- A number is spelled in any form that holds it. An item's count from 1 to 15 may stand in the low half of the first
-- byte; any count may follow a low half of 0.
abbrev pub IsNumber : Range → ℤ → List ℕ → Type 0
IsNumber range n bytes =
    (form : Form) × ((within range n ≡ true) × (fits_form form n ≡ true) × (bytes ≡ form_bytes form n))

abbrev pub IsItemStart : ℕ → ℕ → List ℕ → Type 0
IsItemStart kind count bytes =
    ((1 ≤ count) × (count ≤ 15) × (bytes ≡ (16 * kind + count) ∷ []))
    ⊎ ((form : Form) × ((fits_form form (pos count) ≡ true) × (bytes ≡ (16 * kind) ∷ form_bytes form (pos count))))

-- The bytes spell the part.
abbrev pub IsPart : Part → List ℕ → Type 0
IsPart (byte b) bytes = bytes ≡ b ∷ []
IsPart (below limit b) bytes = (b < limit) × (bytes ≡ b ∷ [])
IsPart (word n) bytes = (n < 2 ^ 32) × (bytes ≡ big_bytes 4 n)
IsPart (number range n) bytes = IsNumber range n bytes
IsPart (item kind count) bytes = (kind < 16) × IsItemStart kind count bytes
IsPart (utf8 chars) bytes = (all_scalars chars ≡ true) × (bytes ≡ encode_utf8_all chars)
IsPart (name chars) bytes =
    (all_scalars chars ≡ true) × (no_zero chars ≡ true) × (bytes ≡ encode_utf8_all chars ++ 0 ∷ [])
IsPart (raw own) bytes = bytes ≡ own

-- The bytes spell the parts, one after the other.
abbrev pub AreParts : List Part → List ℕ → Type 0
AreParts [] bytes = bytes ≡ []
AreParts (part ∷ parts) bytes =
    (front : List ℕ) × ((rest : List ℕ) × (IsPart part front × AreParts parts rest × (bytes ≡ front ++ rest)))

-- The shortest spelling of a part: a count from 1 to 15 stands in the first byte.
abbrev pub written : Part → List ℕ
written (byte b) = b ∷ []
written (below limit b) = b ∷ []
written (word n) = big_bytes 4 n
written (number range n) = form_bytes (shortest n) n
written (item kind count) =
    if nat_le 1 count && nat_le count 15 then (16 * kind + count) ∷ []
    else (16 * kind) ∷ form_bytes (shortest (pos count)) (pos count)
written (utf8 chars) = encode_utf8_all chars
written (name chars) = encode_utf8_all chars ++ 0 ∷ []
written (raw own) = own

-- Whether a part's numbers fit their fields.
abbrev pub fits : Part → Bool
fits (byte b) = true
fits (below limit b) = nat_lt b limit
fits (word n) = true
fits (number range n) = within range n && fits_form four_bytes n
fits (item kind count) = nat_lt kind 16 && nat_lt count (2 ^ 29)
fits (utf8 chars) = true
fits (name chars) = true
fits (raw own) = true

-- ---- instructions

-- The address byte: two bits say what the middle operand is, then three what the source is, three the destination.
abbrev pub middle_mode : Middle → ℕ
middle_mode middle.None = 0
middle_mode (middle.Imm n) = 1
middle_mode (middle.Fp n) = 2
middle_mode (middle.Mp n) = 3

abbrev pub mode : Operand → ℕ
mode (operand.Mp n) = 0
mode (operand.Fp n) = 1
mode (operand.Imm n) = 2
mode operand.None = 3
mode (operand.IndMp inner outer) = 4
mode (operand.IndFp inner outer) = 5

abbrev pub address : Inst → ℕ
address i = 64 * middle_mode i.middle + 8 * mode i.src + mode i.dst

abbrev pub middle_parts : Middle → List Part
middle_parts middle.None = []
middle_parts (middle.Imm n) = number short_number n ∷ []
middle_parts (middle.Fp n) = number short_offset n ∷ []
middle_parts (middle.Mp n) = number short_offset n ∷ []

abbrev pub operand_parts : Operand → List Part
operand_parts operand.None = []
operand_parts (operand.Imm n) = number any n ∷ []
operand_parts (operand.Fp n) = number from_zero n ∷ []
operand_parts (operand.Mp n) = number from_zero n ∷ []
operand_parts (operand.IndFp inner outer) = number from_zero inner ∷ number from_zero outer ∷ []
operand_parts (operand.IndMp inner outer) = number from_zero inner ∷ number from_zero outer ∷ []

-- An opcode, the address byte, and the operands: middle, source, destination.
unfoldable pub inst_parts : Inst → List Part
inst_parts i =
    byte (opcode_of i.op) ∷ byte (address i) ∷ (middle_parts i.middle ++ (operand_parts i.src ++ operand_parts i.dst))

-- ---- the other sections

-- A type: its number, its size, and its map behind the map's length.
unfoldable pub type_parts : ℕ → TypeDesc → List Part
type_parts place t = natural place ∷ natural t.size ∷ natural (length t.map) ∷ raw t.map ∷ []

-- Types, numbered from here on.
abbrev pub types_parts : ℕ → List TypeDesc → List Part
types_parts place [] = []
types_parts place (t ∷ ts) = type_parts place t ++ types_parts (suc place) ts

-- An item of the initial data: its kind and count, its offset, its content.
unfoldable pub item_parts : Item → List Part
item_parts i = item i.kind i.count ∷ natural i.offset ∷ raw i.content ∷ []

unfoldable pub link_parts : LinkEntry → List Part
link_parts l = natural l.pc ∷ natural l.frame ∷ word l.sign ∷ name l.name ∷ []

unfoldable pub import_parts : Import → List Part
import_parts i = word i.sign ∷ name i.name ∷ []

-- Items behind their count.
abbrev pub counted : {A : Type 0} → (A → List Part) → List A → List Part
counted parts xs = natural (length xs) ∷ flat_map parts xs

-- The text of an arm stands behind the number of its bytes.
unfoldable pub arm_parts : CatchArm → List Part
arm_parts a = below 4 a.kind ∷ natural (length (encode_utf8_all a.text)) ∷ utf8 a.text ∷ natural a.pc ∷ []

unfoldable pub catch_parts : Catch → List Part
catch_parts c = natural c.first ∷ natural c.end ∷ natural c.offset ∷ counted arm_parts c.arms

-- The flags that say whether there are imports and catches.
abbrev pub has_imports : ℕ → Bool
has_imports flags = flags == 0x100 || flags == 0x300

abbrev pub has_catches : ℕ → Bool
has_catches flags = flags == 0x200 || flags == 0x300

-- The first number of an object file, and of a signed one.
abbrev pub magic : ℕ
magic = 819248

abbrev pub signed_magic : ℕ
signed_magic = 923426

unfoldable pub header_parts : Object → List Part
header_parts o =
    number any (pos magic) ∷ number any (pos o.flags) ∷ natural o.stack ∷ natural (length o.insts) ∷ natural o.data_size
    ∷ natural (length o.types) ∷ natural (length o.links) ∷ natural o.entry_pc ∷ natural o.entry_type ∷ []

-- The object file: header, code, types, data up to a byte 00, name, links, and behind their flags imports and catches.
unfoldable pub body_parts : Object → List Part
body_parts o =
    flat_map inst_parts o.insts
    ++ (types_parts 0 o.types
    ++ (flat_map item_parts o.items ++ (byte 0 ∷ name o.module ∷ flat_map link_parts o.links)))

unfoldable pub last_parts : Object → List Part
last_parts o =
    (if has_imports o.flags then counted (counted import_parts) o.imports else [])
    ++ (if has_catches o.flags then counted catch_parts o.catches else [])

abbrev pub object_parts : Object → List Part
object_parts o = header_parts o ++ (body_parts o ++ last_parts o)
