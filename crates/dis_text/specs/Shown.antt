-- What a listing shows of an object. The line of an instruction shows the operation, and the operands that are there, in the order
-- source, middle, destination. Where one of them is absent, it doesn't show which.
use Rattle.std.specs.Prelude.{◌≡◌, ◌<◌, ◌^◌, ⊤, ℕ, ℤ, Bool, true, ◌&&◌, ◌||◌, not, ◌==◌, List, [], ◌∷◌, ◌++◌, length}
use Rattle.std.specs.List.{AllByRecursion}
use Rattle.dis_isa.specs.declared.inst.Inst.{Inst}
use Rattle.dis_isa.specs.declared.inst.Operand.{Operand}
use Rattle.dis_isa.specs.declared.inst.Operand.TheVariants as operand
use Rattle.dis_isa.specs.declared.inst.Middle.{Middle}
use Rattle.dis_isa.specs.declared.inst.Middle.TheVariants as middle
use Rattle.dis_file.specs.declared.object.Object.{Object}
use Rattle.dis_file.specs.declared.object.Item.{Item}
use Rattle.dis_file.specs.declared.object.LinkEntry.{LinkEntry}
use Rattle.dis_file.specs.declared.object.Import.{Import}
use Rattle.dis_file.specs.declared.object.Catch.{Catch}
use Rattle.dis_file.specs.declared.object.CatchArm.{CatchArm}
use Rattle.dis_file.specs.declared.types.TypeDesc.{TypeDesc}
use Rattle.dis_format.specs.Operands.{magnitude}
use Rattle.dis_format.specs.Parts.{has_imports, has_catches}

-- what an offset counts from: the frame or the module's data
pub data Base : Type 0 where
  frame : Base
  module_data : Base

-- an operand that is there: the number itself, a word at an offset, a word of the block whose address stands at an offset
pub data Shown : Type 0 where
  immediate : (n : ℤ) → Shown
  offset : (base : Base) (n : ℤ) → Shown
  indirect : (base : Base) (inner outer : ℤ) → Shown

abbrev pub of_operand : Operand → List Shown
of_operand operand.None = []
of_operand (operand.Imm n) = immediate n ∷ []
of_operand (operand.Fp n) = offset frame n ∷ []
of_operand (operand.Mp n) = offset module_data n ∷ []
of_operand (operand.IndFp inner outer) = indirect frame inner outer ∷ []
of_operand (operand.IndMp inner outer) = indirect module_data inner outer ∷ []

abbrev pub of_middle : Middle → List Shown
of_middle middle.None = []
of_middle (middle.Imm n) = immediate n ∷ []
of_middle (middle.Fp n) = offset frame n ∷ []
of_middle (middle.Mp n) = offset module_data n ∷ []

abbrev pub present : Inst → List Shown
present i = of_operand i.src ++ (of_middle i.middle ++ of_operand i.dst)

-- an operand's numbers take 32 bits, as in every instruction of the code
abbrev pub IsNarrow : Shown → Type 0
IsNarrow (immediate n) = magnitude n < 2 ^ 31
IsNarrow (offset base n) = magnitude n < 2 ^ 31
IsNarrow (indirect base inner outer) = (magnitude inner < 2 ^ 31) × (magnitude outer < 2 ^ 31)

abbrev pub AreNarrow : List Shown → Type 0
AreNarrow [] = ⊤
AreNarrow (s ∷ ss) = IsNarrow s × AreNarrow ss

-- two instructions with one operation and the same operands, but for which of the three places they stand in
pub record ShowsSame (i j : Inst) : Type 0 where
  pub op : i.op ≡ j.op
  pub operands : present i ≡ present j

-- ---- the whole object

-- A text without newline and without quote.
abbrev pub is_plain : ℕ → Bool
is_plain c = not (c == 10) && not (c == 34)

abbrev pub IsPlainText : List ℕ → Type 0
IsPlainText t = AllByRecursion (λ c. is_plain c ≡ true) t

abbrev pub IsWord : ℕ → Type 0
IsWord n = n < 2 ^ 32

abbrev pub AreByteValues : List ℕ → Type 0
AreByteValues bs = AllByRecursion (λ b. b < 256) bs

-- Numbers take 32 bits and bytes 8, as in every object of the code; names and texts are plain.
abbrev pub IsPlainType : TypeDesc → Type 0
IsPlainType t = IsWord t.size × AreByteValues t.map

abbrev pub IsPlainItem : Item → Type 0
IsPlainItem i = IsWord i.kind × IsWord i.count × IsWord i.offset × AreByteValues i.content

abbrev pub IsPlainLink : LinkEntry → Type 0
IsPlainLink l = IsWord l.pc × IsWord l.frame × IsWord l.sign × IsPlainText l.name

abbrev pub IsPlainImport : Import → Type 0
IsPlainImport i = IsWord i.sign × IsPlainText i.name

abbrev pub IsPlainArm : CatchArm → Type 0
IsPlainArm a = IsWord a.kind × IsPlainText a.text × IsWord a.pc

abbrev pub IsPlainCatch : Catch → Type 0
IsPlainCatch c = IsWord c.first × IsWord c.end × IsWord c.offset × AllByRecursion IsPlainArm c.arms

-- An object whose names and texts are plain. Its lists have fewer than 2^64 items, and where a flag doesn't say that there are
-- imports or handlers there are none, as in every valid object.
pub record IsPlain (o : Object) : Type 0 where
  pub flags : IsWord o.flags
  pub stack : IsWord o.stack
  pub data_size : IsWord o.data_size
  pub entry_pc : IsWord o.entry_pc
  pub entry_type : IsWord o.entry_type
  pub insts : AllByRecursion (λ i. AreNarrow (present i)) o.insts
  pub types : AllByRecursion IsPlainType o.types
  pub items : AllByRecursion IsPlainItem o.items
  pub name : IsPlainText o.«module»
  pub links : AllByRecursion IsPlainLink o.links
  pub imports : AllByRecursion (AllByRecursion IsPlainImport) o.imports
  pub catches : AllByRecursion IsPlainCatch o.catches
  pub insts_few : length o.insts < 2 ^ 64
  pub types_few : length o.types < 2 ^ 64
  pub links_few : length o.links < 2 ^ 64
  pub imports_few : length o.imports < 2 ^ 64
  pub catches_few : length o.catches < 2 ^ 64
  pub imports_there : has_imports o.flags || length o.imports == 0 ≡ true
  pub catches_there : has_catches o.flags || length o.catches == 0 ≡ true

-- the names and texts of an object are plain
abbrev pub HasPlainArms : Catch → Type 0
HasPlainArms c = AllByRecursion (λ a. IsPlainText a.text) c.arms

pub record HasPlainTexts (o : Object) : Type 0 where
  pub name : IsPlainText o.«module»
  pub links : AllByRecursion (λ l. IsPlainText l.name) o.links
  pub imports : AllByRecursion (AllByRecursion (λ i. IsPlainText i.name)) o.imports
  pub catches : AllByRecursion HasPlainArms o.catches

-- two lists of one length, related place by place
abbrev pub SameEach : {A : Type 0} → (A → A → Type 0) → List A → List A → Type 0
SameEach R [] [] = ⊤
SameEach R [] (y ∷ ys) = ⊥
SameEach R (x ∷ xs) [] = ⊥
SameEach R (x ∷ xs) (y ∷ ys) = R x y × SameEach R xs ys

-- two objects that differ at most in which of the three places the operands of an instruction stand in, where one is absent
pub record ShowsSameObject (o p : Object) : Type 0 where
  pub flags : o.flags ≡ p.flags
  pub stack : o.stack ≡ p.stack
  pub data_size : o.data_size ≡ p.data_size
  pub entry_pc : o.entry_pc ≡ p.entry_pc
  pub entry_type : o.entry_type ≡ p.entry_type
  pub insts : SameEach ShowsSame o.insts p.insts
  pub types : o.types ≡ p.types
  pub items : o.items ≡ p.items
  pub name : o.«module» ≡ p.«module»
  pub links : o.links ≡ p.links
  pub imports : o.imports ≡ p.imports
  pub catches : o.catches ≡ p.catches
