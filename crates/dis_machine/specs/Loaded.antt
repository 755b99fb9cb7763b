-- Tables that have what the objects ask for.
use Rattle.std.specs.Prelude.{◌≡◌, ℕ, ◌+◌, ◌<◌, ◌^◌, pos, Bool, true, false, List, [], ◌∷◌, length, Some, slice_get, nat_eq, ◌&&◌, ◌||◌}
use Rattle.std.proofs.Props.{props}
use Rattle.dis_isa.specs.declared.inst.Inst.{Inst}
use Rattle.dis_isa.specs.declared.inst.Operand.TheVariants.{Imm}
use Rattle.dis_isa.specs.declared.op.Op.TheVariants.{Newcm}
use Rattle.dis_file.specs.declared.object.Import.{Import}
use Rattle.dis_file.specs.declared.types.TypeDesc.{TypeDesc}
use Rattle.dis_meaning.specs.Step.{names}
use Rattle.dis_places.specs.declared.memory.Tables.{Tables}
use Rattle.dis_places.specs.Blocks.{names_by}
use Rattle.dis_code.specs.declared.code.Code.{Code}
use Rattle.dis_code.specs.Loaded.{HasFirst, HasType}

-- Whether the type of plain words that take so many bytes is among these.
abbrev pub is_empty : List ℕ → Bool
is_empty [] = true
is_empty (n ∷ ns) = false

abbrev pub has_plain : List TypeDesc → (size : ℕ) → Bool
has_plain [] size = false
has_plain (d ∷ ds) size = (nat_eq d.size size && is_empty d.map) || has_plain ds size

-- What dis_code calls loaded, where it doesn't matter under which number a type of plain words stands.
pub record Has (t : Tables) (c : Code) : Type 0 where
  pub first : HasFirst t
  pub types : (n : ℕ) (desc : TypeDesc) → slice_get c.object.types n ≡ Some desc → HasType t (c.types + n) desc
  pub names : (n : ℕ) (imports : List Import) → slice_get c.object.imports n ≡ Some imports → names_by t (c.names + n) ≡ names imports
  pub plain : (k n : ℕ) (i : Inst) → slice_get c.object.insts k ≡ Some i → i.op ≡ Newcm → i.src ≡ Imm (pos n) →
      has_plain t.types.items n ≡ true
  pub few_types : length t.types.items < 2 ^ 32
  pub few_names : c.names + length c.object.imports < 2 ^ 32

-- So it is of each of the objects.
abbrev pub HaveAll : Tables → List (List ℕ × Code) → Type 0
HaveAll t codes = (k : ℕ) (code : List ℕ × Code) → slice_get codes k ≡ Some code → Has t code.1

-- That has at most one proof.
pub have_all_once : (t : Tables) (codes : List (List ℕ × Code)) → IsProp (HaveAll t codes)
have_all_once t codes = hlevel props
