-- Types by their numbers in memory's tables.
use Rattle.std.proofs.Common.{◌≡◌, ℕ, ◌+◌, ◌<◌, ◌^◌, [], Some, pos, negsuc, ap, arith}
use Rattle.std.specs.Prelude.{slice_get, unwrap_or}
use Rattle.std.proofs.lemmas.Option.{slice_get_within}
use Rattle.dis_file.specs.declared.types.TypeDesc.{TypeDesc}
use Rattle.dis_places.specs.declared.memory.Tables.{Tables}
use Rattle.dis_places.specs.Blocks.{type_by}
use Rattle.dis_code.specs.declared.code.Code.{Code}
use Rattle.dis_code.specs.Loaded.{HasPlain, HasType, IsLoaded}
use Rattle.dis_isa.specs.declared.inst.Inst.{Inst}
use Rattle.dis_isa.specs.declared.inst.Operand.{Operand}
use Rattle.dis_isa.specs.declared.inst.Operand.TheVariants as operand
use Rattle.dis_isa.specs.declared.op.Op.TheVariants.{Newcm}
use Rattle.dis_meaning.specs.Words.{Found}
use Rattle.dis_memory.specs.Operands.{immediate}

pub has_type : (t : Tables) (n : ℕ) (desc : TypeDesc) → HasType t n desc → type_by t n ≡ desc
has_type t n desc e = ap (λ o. unwrap_or o (record { size = 0; map = [] })) e

-- A type of the object, in the tables.
pub loaded_type : (t : Tables) (c : Code) (n : ℕ) (desc : TypeDesc) → IsLoaded t c → slice_get c.object.types n ≡ Some desc → type_by t (c.types + n) ≡ desc
loaded_type t c n desc l e = has_type t (c.types + n) desc (l.types n desc e)

pub loaded_small : (t : Tables) (c : Code) (n : ℕ) (desc : TypeDesc) → IsLoaded t c → slice_get c.object.types n ≡ Some desc → c.types + n < 2 ^ 32
loaded_small t c n desc l e =
    let a = slice_get_within t.types.items (c.types + n) desc (l.types n desc e) in let b = l.few_types in omega (arith, a, b)

-- The plain type that a channel's instruction asks for.
immediate_is : (s : Operand) (n : ℕ) → immediate s ≡ Found n → s ≡ operand.Imm (pos n)
immediate_is (operand.Imm (pos m)) n e = let same : m ≡ n = cc in ap (λ m. operand.Imm (pos m)) same
immediate_is (operand.Imm (negsuc m)) n e = absurd cc
immediate_is operand.None n e = absurd cc
immediate_is (operand.Fp at) n e = absurd cc
immediate_is (operand.Mp at) n e = absurd cc
immediate_is (operand.IndFp inner outer) n e = absurd cc
immediate_is (operand.IndMp inner outer) n e = absurd cc

pub plain_there : (t : Tables) (c : Code) (k n : ℕ) (i : Inst) → IsLoaded t c → slice_get c.object.insts k ≡ Some i → i.op ≡ Newcm → immediate i.src ≡ Found n → HasPlain t n
plain_there t c k n i l there op e = l.plain k n i there op (immediate_is i.src n e)
