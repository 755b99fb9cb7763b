-- Tables of memory that have what an object asks for.
use Rattle.std.specs.Prelude.{◌≡◌, ℕ, ◌+◌, ◌<◌, ◌^◌, pos, List, [], ◌∷◌, length, Some, slice_get}
use Rattle.dis_isa.specs.declared.inst.Inst.{Inst}
use Rattle.dis_isa.specs.declared.inst.Operand.TheVariants.{Imm}
use Rattle.dis_isa.specs.declared.op.Op.TheVariants.{Newcm}
use Rattle.dis_file.specs.declared.object.Import.{Import}
use Rattle.dis_file.specs.declared.types.TypeDesc.{TypeDesc}
use Rattle.dis_meaning.specs.Step.{names}
use Rattle.dis_memory.specs.Step.{type_of_size}
use Rattle.dis_places.specs.declared.memory.Tables.{Tables}
use Rattle.dis_places.specs.Blocks.{names_by}
use Rattle.dis_code.specs.declared.code.Code.{Code}

-- A type stands there in the tables.
abbrev pub HasType : Tables → (number : ℕ) → TypeDesc → Type 0
HasType t n desc = slice_get t.types.items n ≡ Some desc

-- The types of elements that instructions name by their own names come first: a byte, a word, a big and a reference.
pub record HasFirst (t : Tables) : Type 0 where
  pub byte : HasType t 0 (type_of_size 1 [])
  pub word : HasType t 1 (type_of_size 4 [])
  pub big : HasType t 2 (type_of_size 8 [])
  pub reference : HasType t 3 (type_of_size 4 (128 ∷ []))

-- The type of plain elements of so many bytes is among them, as `newcm` asks for it.
pub record HasPlain (t : Tables) (size : ℕ) : Type 0 where
  pub number : ℕ
  pub there : HasType t number (type_of_size size [])

-- The tables have the types of the object and the names of its import tables from its numbers on, and what its instructions name else.
pub record IsLoaded (t : Tables) (c : Code) : Type 0 where
  pub first : HasFirst t
  pub types : (n : ℕ) (desc : TypeDesc) → slice_get c.object.types n ≡ Some desc → HasType t (c.types + n) desc
  pub names : (n : ℕ) (imports : List Import) → slice_get c.object.imports n ≡ Some imports → names_by t (c.names + n) ≡ names imports
  pub plain : (k n : ℕ) (i : Inst) → slice_get c.object.insts k ≡ Some i → i.op ≡ Newcm → i.src ≡ Imm (pos n) → HasPlain t n
  pub few_types : length t.types.items < 2 ^ 32
  pub few_names : c.names + length c.object.imports < 2 ^ 32
