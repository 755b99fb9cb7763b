-- Tables that are made of objects, one after the other.
use Rattle.std.specs.Prelude.{◌≡◌, ℕ, ℤ, pos, negsuc, ◌+◌, ◌<◌, ◌≤◌, ◌^◌, List, [], ◌∷◌, length, map, Option, Some, None, Vec, slice_get}
use Rattle.std.specs.Global.{Global}
use Rattle.dis_isa.specs.declared.inst.Inst.{Inst}
use Rattle.dis_isa.specs.declared.inst.Operand.{Operand}
use Rattle.dis_isa.specs.declared.inst.Operand.TheVariants.{Imm}
use Rattle.dis_isa.specs.declared.op.Op.{Op}
use Rattle.dis_isa.specs.declared.op.Op.TheVariants.{Newcm}
use Rattle.dis_file.specs.declared.types.TypeDesc.{TypeDesc}
use Rattle.dis_memory.specs.Step.{type_of_size}
use Rattle.dis_places.specs.declared.memory.Tables.{Tables}
use Rattle.dis_places.specs.Blocks.{names_by}
use Rattle.dis_code.specs.declared.code.Code.{Code}
use Rattle.dis_code.specs.Loaded.{HasFirst, IsLoaded}

abbrev pub first_types : List TypeDesc
first_types = type_of_size 1 [] ∷ type_of_size 4 [] ∷ type_of_size 8 [] ∷ type_of_size 4 (128 ∷ []) ∷ []

-- The lists of names of a table.
abbrev pub lists_of : Vec (Vec (List ℕ) Global) Global → List (List (List ℕ))
lists_of lists = map (λ (names : Vec (List ℕ) Global). names.items) lists.items

-- The size of the plain elements of channels that an instruction makes.
abbrev pub size_of : ℤ → Option ℕ
size_of (pos n) = Some n
size_of (negsuc n) = None

abbrev pub plain_source : Operand → Option ℕ
plain_source (Imm n) = size_of n
plain_source _ = None

abbrev pub plain_by : Op → Operand → Option ℕ
plain_by Newcm o = plain_source o
plain_by _ o = None

abbrev pub plain_asked : Inst → Option ℕ
plain_asked i = plain_by i.op i.src

-- What stands in a list of types stands there in a longer one.
abbrev pub Extends : (old new : List TypeDesc) → Type 0
Extends old new = (n : ℕ) (desc : TypeDesc) → slice_get old n ≡ Some desc → slice_get new n ≡ Some desc

pub record HasPlainType (types : List TypeDesc) (size : ℕ) : Type 0 where
  pub number : ℕ
  pub there : slice_get types number ≡ Some (type_of_size size [])

-- All plain elements of channels that these instructions make have their type.
abbrev pub HasAsked : List TypeDesc → List Inst → Type 0
HasAsked types insts = (k : ℕ) (i : Inst) (size : ℕ) → slice_get insts k ≡ Some i → plain_asked i ≡ Some size → HasPlainType types size

-- Tables to which more may come: their first types are there, and there are no more than numbers for them.
pub record IsBegun (t : Tables) : Type 0 where
  pub first : HasFirst t
  pub types : length t.types.items < 2 ^ 32
  pub names : length t.names.items < 2 ^ 32

-- What stood there stands there still.
pub record Grows (old new : Tables) : Type 0 where
  pub types : Extends old.types.items new.types.items
  pub longer : length old.names.items ≤ length new.names.items
  pub names : (n : ℕ) → n < length old.names.items → names_by new n ≡ names_by old n

-- An object has been entered: its names stand among those that are there.
pub record IsEntered (t : Tables) (c : Code) : Type 0 where
  pub loaded : IsLoaded t c
  pub within : c.names + length c.object.imports ≤ length t.names.items
