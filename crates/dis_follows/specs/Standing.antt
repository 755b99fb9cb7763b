-- At which instruction of three-address code a process of the machine is, or to which it is on its way.
use Rattle.std.specs.Prelude.{ℕ, zero, suc, pos, ◌-◌, nat_lt, Option, Some, None, List, [], ◌∷◌, slice_get, if◌then◌else◌}
use Rattle.dis_isa.specs.declared.inst.Inst.{Inst}
use Rattle.dis_isa.specs.declared.inst.Operand as isa
use Rattle.dis_isa.specs.declared.inst.Operand.TheVariants as operand
use Rattle.dis_isa.specs.declared.op.Op.{Op}
use Rattle.dis_isa.specs.declared.op.Op.TheVariants as op
use Rattle.slot_code.specs.Code as code
use Rattle.slot_code.specs.Code.{Function, Module}
use Rattle.dis_meaning.specs.Process.{Frame, Process}
use Rattle.dis_objects.specs.Code.{size, sizes}
use Rattle.dis_objects.specs.Objects.{entry_size, base_of, init_of, object_of}
use Rattle.dis_follows.specs.Paces.{place}

-- A function, and an instruction of it, by their numbers.
pub record Standing : Type 0 where
  pub function : ℕ
  pub pc : ℕ

-- Whose code a place is in, where the code of these begins there.
abbrev pub row_at : List code.Inst → (place : ℕ) → ℕ
row_at [] n = 0
row_at (i ∷ is) n = if nat_lt n (size i) then 0 else suc (row_at is (n - size i))

abbrev pub of_next : Standing → Standing
of_next s = record { function = suc s.function; pc = s.pc }

abbrev pub found_in : List Function → (place : ℕ) → Standing
found_in [] n = record { function = 0; pc = 0 }
found_in (f ∷ fs) n =
    if nat_lt n (sizes f.code) then record { function = 0; pc = row_at f.code n } else of_next (found_in fs (n - sizes f.code))

-- Where a jump goes, and a return.
abbrev pub jump_target : isa.Operand → ℕ
jump_target (operand.Imm (pos n)) = n
jump_target _ = 0

abbrev pub below_place : List Frame → ℕ
below_place [] = 0
below_place (f ∷ fs) = f.pc

abbrev pub op_target : Op → isa.Operand → List Frame → ℕ
op_target op.Ret d below = below_place below
op_target o d below = jump_target d

abbrev pub target_of : Option Inst → List Frame → ℕ
target_of None below = 0
target_of (Some i) below = op_target i.op i.dst below

-- From the entry it is on its way to `init`. Where the other code is on already, it goes there next.
abbrev pub init_place : Module → Option ℕ → ℕ
init_place m None = 0
init_place m (Some n) = base_of m.functions n

abbrev pub next_place : (rank : ℕ) → (elsewhere here : ℕ) → ℕ
next_place zero elsewhere here = elsewhere
next_place (suc n) elsewhere here = here

abbrev pub place_on : Module → Process → ℕ
place_on m r =
    if nat_lt r.frame.pc (entry_size m.functions) then init_place m (init_of m)
    else next_place (place m r) (target_of (slice_get (object_of m).insts r.frame.pc) r.below) r.frame.pc

abbrev pub standing_at : Module → Process → Standing
standing_at m r = found_in m.functions (place_on m r - entry_size m.functions)
