-- The listing of an object: its parts as lines of text, numbers in decimal.
use Rattle.std.specs.Prelude.{ℕ, suc, ◌+◌, ◌*◌, ◌/◌, ◌%◌, List, [], ◌∷◌, ◌++◌, length, drop, codes, nat_lt, ◌==◌}
use Rattle.std.specs.Prelude.{if◌then◌else◌, encode_utf8_all}
use Rattle.std.specs.List.{flat_map}
use Rattle.std.specs.Fmt.{decimal, signed_decimal}
use Rattle.byteorder.specs.Endian.{big_bytes}
use Rattle.dis_isa.specs.declared.op.Op.{Op}
use Rattle.dis_isa.specs.declared.inst.Inst.{Inst}
use Rattle.dis_isa.specs.declared.inst.Operand.{Operand}
use Rattle.dis_isa.specs.declared.inst.Operand.TheVariants as operand
use Rattle.dis_isa.specs.declared.inst.Middle.{Middle}
use Rattle.dis_isa.specs.declared.inst.Middle.TheVariants as middle
use Rattle.dis_file.specs.declared.object.Object.{Object}
use Rattle.dis_file.specs.declared.object.Item.{Item}
use Rattle.dis_file.specs.declared.object.LinkEntry.{LinkEntry}
use Rattle.dis_file.specs.declared.object.Import.{Import}
use Rattle.dis_file.specs.declared.object.Catch.{Catch}
use Rattle.dis_file.specs.declared.object.CatchArm.{CatchArm}
use Rattle.dis_file.specs.declared.types.TypeDesc.{TypeDesc}
use Rattle.dis_format.specs.Opcodes.{opcode_of}
use Rattle.dis_format.specs.Parts.{has_imports, has_catches}
use Rattle.dis_text.specs.declared.names.TheConstants.{NAMES}

-- ---- words

-- Two digits a byte, in lower case.
abbrev pub hex_digit : ℕ → ℕ
hex_digit d = if nat_lt d 10 then 48 + d else 87 + d

abbrev pub hex_byte : ℕ → List ℕ
hex_byte b = hex_digit (b / 16) ∷ hex_digit (b % 16) ∷ []

-- Bytes in hexadecimal, or `-` where there are none.
abbrev pub hex : List ℕ → List ℕ
hex [] = codes "-"
hex (b ∷ bs) = flat_map hex_byte (b ∷ bs)

-- A signature is eight digits.
abbrev pub signature : ℕ → List ℕ
signature sign = flat_map hex_byte (big_bytes 4 sign)

-- The characters before a blank.
abbrev pub before_blank : List ℕ → List ℕ
before_blank [] = []
before_blank (c ∷ cs) = if c == 32 then [] else c ∷ before_blank cs

-- An operation's name stands at its opcode in the table.
unfoldable pub name_of : Op → List ℕ
name_of op = before_blank (drop (8 * opcode_of op) NAMES)

-- Words with a blank between them.
infixr 5 ◌␣◌
abbrev pub ◌␣◌ : List ℕ → List ℕ → List ℕ
a ␣ b = a ++ 32 ∷ b

-- ---- instructions

-- An operand that is present, as a list of one word: `$n`, `n(fp)`, `n(mp)`, `n(m(fp))`, `n(m(mp))`.
abbrev pub source_text : Operand → List (List ℕ)
source_text operand.None = []
source_text (operand.Imm n) = (codes "$" ++ signed_decimal n) ∷ []
source_text (operand.Fp n) = (signed_decimal n ++ codes "(fp)") ∷ []
source_text (operand.Mp n) = (signed_decimal n ++ codes "(mp)") ∷ []
source_text (operand.IndFp inner outer) =
    (signed_decimal outer ++ (codes "(" ++ (signed_decimal inner ++ codes "(fp))"))) ∷ []
source_text (operand.IndMp inner outer) =
    (signed_decimal outer ++ (codes "(" ++ (signed_decimal inner ++ codes "(mp))"))) ∷ []

abbrev pub middle_text : Middle → List (List ℕ)
middle_text middle.None = []
middle_text (middle.Imm n) = (codes "$" ++ signed_decimal n) ∷ []
middle_text (middle.Fp n) = (signed_decimal n ++ codes "(fp)") ∷ []
middle_text (middle.Mp n) = (signed_decimal n ++ codes "(mp)") ∷ []

-- The operands that are present: source, middle, destination.
abbrev pub operands : Inst → List (List ℕ)
operands i = source_text i.src ++ (middle_text i.middle ++ source_text i.dst)

-- Words, the first one behind this mark and the others behind commas.
abbrev pub marked : ℕ → List (List ℕ) → List ℕ
marked mark [] = []
marked mark (w ∷ ws) = mark ∷ (w ++ marked 44 ws)

-- The mark of a word that follows these.
abbrev pub mark_behind : ℕ → List (List ℕ) → ℕ
mark_behind mark [] = mark
mark_behind mark (w ∷ ws) = 44

-- A pc, a name, and behind a blank the operands.
unfoldable pub inst_line : ℕ → Inst → List ℕ
inst_line pc i = decimal pc ␣ (name_of i.op ++ (marked 32 (operands i) ++ codes "\n"))

-- ---- the other sections

unfoldable pub type_line : ℕ → TypeDesc → List ℕ
type_line place t = decimal place ␣ codes "size" ␣ decimal t.size ␣ codes "map" ␣ (hex t.map ++ codes "\n")

unfoldable pub item_line : Item → List ℕ
item_line i = decimal i.kind ␣ decimal i.count ␣ decimal i.offset ␣ (hex i.content ++ codes "\n")

unfoldable pub link_line : LinkEntry → List ℕ
link_line l = decimal l.pc ␣ decimal l.frame ␣ signature l.sign ␣ (encode_utf8_all l.name ++ codes "\n")

unfoldable pub import_line : ℕ → Import → List ℕ
import_line table i = codes "table" ␣ decimal table ␣ signature i.sign ␣ (encode_utf8_all i.name ++ codes "\n")

-- An arm: its kind, its text in quotes, its pc.
unfoldable pub arm_text : CatchArm → List ℕ
arm_text a = 32 ∷ (decimal a.kind ␣ (codes "\"" ++ (encode_utf8_all a.text ++ (codes "\"" ␣ decimal a.pc))))

unfoldable pub catch_line : Catch → List ℕ
catch_line c =
    decimal c.first ␣ decimal c.end ␣ (decimal c.offset ++ (flat_map arm_text c.arms ++ codes "\n"))

-- Lines that are numbered from here on.
abbrev pub numbered : {A : Type 0} → (ℕ → A → List ℕ) → ℕ → List A → List ℕ
numbered line n [] = []
numbered line n (x ∷ xs) = line n x ++ numbered line (suc n) xs

abbrev pub table_lines : ℕ → List Import → List ℕ
table_lines table imports = flat_map (import_line table) imports

-- A line that begins a section: its name and a number.
abbrev pub head_line : List ℕ → ℕ → List ℕ
head_line word n = word ␣ (decimal n ++ codes "\n")

unfoldable pub entry_line : Object → List ℕ
entry_line o =
    codes "flags" ␣ decimal o.flags ␣ codes "stack" ␣ decimal o.stack ␣ codes "entry" ␣ decimal o.entry_pc
    ␣ codes "type" ␣ (decimal o.entry_type ++ codes "\n")

-- The sections behind the flags that say that they are there.
unfoldable pub imports_lines : Object → List ℕ
imports_lines o =
    if has_imports o.flags then head_line (codes "imports") (length o.imports) ++ numbered table_lines 0 o.imports
    else []

unfoldable pub catches_lines : Object → List ℕ
catches_lines o =
    if has_catches o.flags then head_line (codes "catches") (length o.catches) ++ flat_map catch_line o.catches else []

abbrev pub listing_of : Object → List ℕ
listing_of o =
    (codes "module" ␣ (encode_utf8_all o.module ++ codes "\n"))
    ++ (entry_line o
    ++ (head_line (codes "code") (length o.insts)
    ++ (numbered inst_line 0 o.insts
    ++ (head_line (codes "types") (length o.types)
    ++ (numbered type_line 0 o.types
    ++ (head_line (codes "data") o.data_size
    ++ (flat_map item_line o.items
    ++ (head_line (codes "links") (length o.links)
    ++ (flat_map link_line o.links
    ++ (imports_lines o ++ catches_lines o))))))))))
