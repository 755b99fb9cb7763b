-- How far a process is in the code of an instruction.
use Rattle.std.specs.Prelude.{ℕ, zero, suc, ◌+◌, ◌-◌, Option, Some, None, List, [], ◌∷◌, ◌++◌, map, nat_lt, slice_get, if◌then◌else◌}
use Rattle.dis_isa.specs.declared.inst.Inst.{Inst}
use Rattle.dis_isa.specs.declared.op.Op.{Op}
use Rattle.dis_isa.specs.declared.op.Op.TheVariants as op
use Rattle.slot_code.specs.Code.{Function, Module}
use Rattle.dis_meaning.specs.Process.{Frame, Process}
use Rattle.dis_objects.specs.Code.{size}
use Rattle.dis_objects.specs.Objects.{entry_size, object_of}

-- How many instructions each instruction becomes, over all functions.
abbrev pub all_sizes : List Function → List ℕ
all_sizes [] = []
all_sizes (f ∷ fs) = map size f.code ++ all_sizes fs

-- How far behind the begin of its piece a place is, where pieces of these sizes stand in a row.
abbrev pub within : List ℕ → ℕ → ℕ
within [] n = 0
within (s ∷ ss) n = if nat_lt n s then n else within ss (n - s)

-- Where a frame goes behind its last instruction: a return to the frame below stands for no step, and the end of all does.
abbrev pub last_rank : List Frame → ℕ
last_rank [] = 4
last_rank (f ∷ fs) = 0

-- An instruction so far behind the begin of its row. One that goes on where the other code is already, a jump or a return, comes first.
abbrev pub op_rank : Op → List Frame → (offset : ℕ) → ℕ
op_rank op.Jmp below n = 0
op_rank op.Ret below n = last_rank below
op_rank o below n = 3 + n

abbrev pub inst_rank : Option Inst → List Frame → (offset : ℕ) → ℕ
inst_rank None below n = 3
inst_rank (Some i) below n = op_rank i.op below n

abbrev pub rank : Option Inst → List Frame → (offset : ℕ) → ℕ
rank i below zero = 3
rank i below (suc n) = inst_rank i below (suc n)

-- In the entry, and behind it.
abbrev pub place : Module → Process → ℕ
place m r =
    if nat_lt r.frame.pc (entry_size m.functions) then r.frame.pc
    else rank (slice_get (object_of m).insts r.frame.pc) r.below (within (all_sizes m.functions) (r.frame.pc - entry_size m.functions))
