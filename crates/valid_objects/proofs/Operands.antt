-- Operands whose numbers fit their fields.
use Rattle.std.proofs.Common.{◌≡◌, ℕ, ◌+◌, ◌<◌, ◌≤◌, ℤ, pos, negsuc, Bool, true, false, ◌&&◌, List, [], ◌∷◌, ◌++◌, refl, arith}
use Rattle.std.specs.Prelude.{int_le}
use Rattle.std.proofs.lemmas.Bool.{lt-ltb, leb-true, le-leb, and_parts}
use Rattle.dis_isa.specs.declared.inst.Inst as code_inst
use Rattle.dis_isa.specs.declared.inst.Middle.{Middle}
use Rattle.dis_isa.specs.declared.inst.Middle.TheVariants as middle
use Rattle.dis_isa.specs.declared.inst.Operand as isa
use Rattle.dis_isa.specs.declared.inst.Operand.TheVariants as operand
use Rattle.dis_isa.specs.declared.op.Op.{Op}
use Rattle.dis_format.specs.Operands.{four_bytes, fits_form, short_number, within}
use Rattle.dis_format.specs.Parts.{operand_parts, middle_parts, inst_parts}
use Rattle.dis_objects.specs.Code.{Code, inst, fits_source, fits_middle, number_source, number_middle}
use Rattle.valid_objects.proofs.Spelling.{AllCan, can_both, Each, natural_can}

abbrev pub Holds : isa.Operand → Type 0
Holds o = AllCan (operand_parts o)

abbrev pub HoldsMiddle : Middle → Type 0
HoldsMiddle m = AllCan (middle_parts m)

abbrev pub HoldsInst : code_inst.Inst → Type 0
HoldsInst i = AllCan (inst_parts i)

abbrev pub HoldsCode : Code → Type 0
HoldsCode c = Each HoldsInst c

pub inst_holds : (o : Op) (s : isa.Operand) (m : Middle) (d : isa.Operand) → Holds s → HoldsMiddle m → Holds d → HoldsInst (inst o s m d)
unfolding inst_parts
inst_holds o s m d a b c =
    (tt, (tt, can_both (middle_parts m) (operand_parts s ++ operand_parts d) b (can_both (operand_parts s) (operand_parts d) a c)))

-- ---- places

pub own_holds : (at : ℕ) → at < 536870912 → Holds (operand.Fp (pos at))
own_holds at h = (natural_can at h, tt)

pub data_holds : (at : ℕ) → at < 536870912 → Holds (operand.Mp (pos at))
data_holds at h = (natural_can at h, tt)

pub made_holds : (inner outer : ℕ) → inner < 536870912 → outer < 536870912 → Holds (operand.IndFp (pos inner) (pos outer))
made_holds inner outer h g = (natural_can inner h, (natural_can outer g, tt))

pub own_middle : (at : ℕ) → at < 65536 → HoldsMiddle (middle.Fp (pos at))
own_middle at h = ((lt-ltb at 65536 h, lt-ltb at 536870912 (omega (arith, h))), tt)

-- ---- numbers

pub number_holds : (n : ℕ) → n < 536870912 → Holds (operand.Imm (pos n))
number_holds n h = ((refl, lt-ltb n 536870912 h), tt)

source_fits : (z : ℤ) → fits_source z ≡ true → fits_form four_bytes z ≡ true
source_fits (pos n) h = lt-ltb n 536870912 (let l = leb-true n 536870911 h in omega (arith, l))
source_fits (negsuc n) h =
    let a = and_parts (int_le (negsuc 536870911) (negsuc n)) true h in
    lt-ltb n 536870912 (let l = leb-true n 536870911 a.0 in omega (arith, l))

pub source_holds : (z : ℤ) (at : ℕ) → at < 536870912 → Holds (number_source (fits_source z) z at)
source_holds z at h = by (fits_source z) refl
  where
    by : (b : Bool) → fits_source z ≡ b → Holds (number_source b z at)
    by true e = ((refl, source_fits z e), tt)
    by false e = data_holds at h

-- A number in the middle is an immediate.
middle_within : (z : ℤ) → fits_middle z ≡ true → (within short_number z ≡ true) × (fits_form four_bytes z ≡ true)
middle_within (pos n) h =
    let l = leb-true n 32767 h in
    (lt-ltb n 32768 (omega (arith, l)), lt-ltb n 536870912 (omega (arith, l)))
middle_within (negsuc n) h =
    let a = and_parts (int_le (negsuc 32767) (negsuc n)) true h in
    let l = leb-true n 32767 a.0 in
    (lt-ltb n 32768 (omega (arith, l)), lt-ltb n 536870912 (omega (arith, l)))

pub middle_holds : (z : ℤ) (at : ℕ) → fits_middle z ≡ true → HoldsMiddle (number_middle (fits_middle z) z at)
middle_holds z at h = by (fits_middle z) h
  where
    by : (b : Bool) → b ≡ true → HoldsMiddle (number_middle b z at)
    by true e = (middle_within z h, tt)
    by false e = absurd cc

pub count_fits : (n : ℕ) → n ≤ 32767 → fits_middle (pos n) ≡ true
count_fits n h = le-leb n 32767 h
