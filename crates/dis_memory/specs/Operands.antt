-- Operands that are immediates: types, functions, places in the code.
use Rattle.std.specs.Prelude.{ℕ, length, nat_lt, slice_get, if◌then◌else◌}
use Rattle.dis_isa.specs.declared.inst.Middle.{Middle}
use Rattle.dis_isa.specs.declared.inst.Middle.TheVariants as middle
use Rattle.dis_isa.specs.declared.inst.Operand.{Operand}
use Rattle.dis_isa.specs.declared.inst.Operand.TheVariants as operand
use Rattle.dis_file.specs.declared.object.Object.{Object}
use Rattle.dis_file.specs.declared.types.TypeDesc.{TypeDesc}
use Rattle.dis_meaning.specs.Words.{Access, Found, Wrong, ◌>>=◌, type_check, bad_jump, or_wrong, at_least_zero}

abbrev pub immediate : Operand → Access ℕ
immediate (operand.Imm n) = at_least_zero n
immediate _ = Wrong type_check

abbrev pub middle_immediate : Middle → Access ℕ
middle_immediate (middle.Imm n) = at_least_zero n
middle_immediate _ = Wrong type_check

module _ (o : Object) where
  -- A type of the object.
  abbrev pub type_of : ℕ → Access TypeDesc
  type_of n = or_wrong type_check (slice_get o.types n)

  abbrev pub source_type : Operand → Access TypeDesc
  source_type s = immediate s >>= type_of

  abbrev pub middle_type : Middle → Access TypeDesc
  middle_type m = middle_immediate m >>= type_of

  -- A place in the code.
  abbrev pub target : Operand → Access ℕ
  target d = immediate d >>= λ pc. if nat_lt pc (length o.insts) then Found pc else Wrong bad_jump
