-- Where both machines do the same, and where today's faults and the machine with memory doesn't: an instruction each, worked out.
use Rattle.std.proofs.Common.{◌≡◌, ℕ, pos, List, [], ◌∷◌, ◌++◌, refl}
use Rattle.std.specs.Int.{int_wrap}
use Rattle.std.specs.Prelude.{None, replicate, codes}
use Rattle.process_model.specs.Process.{Effect, Went, Parks, Polls, Spawns, Asks, Ends}
use Rattle.dis_isa.specs.declared.inst.Middle.{Middle}
use Rattle.dis_isa.specs.declared.inst.Middle.TheVariants as middle
use Rattle.dis_isa.specs.declared.inst.Operand.{Operand}
use Rattle.dis_isa.specs.declared.inst.Operand.TheVariants as operand
use Rattle.dis_isa.specs.declared.op.Op.{Op}
use Rattle.dis_isa.specs.declared.op.Op.TheVariants as op
use Rattle.dis_file.specs.declared.object.Object.{Object}
use Rattle.system_model.specs.Values.{Value}
use Rattle.system_model.specs.Prints.{Request}
use Rattle.system_model.specs.Ending.{Ending, Broken, Faulted}
use Rattle.system_model.specs.World.{opening_world}
use Rattle.dis_meaning.specs.Words.{Word, Plain, Refer}
use Rattle.dis_meaning.specs.World as today
use Rattle.dis_meaning.specs.Process.{Process}
use Rattle.dis_meaning.specs.Step as today_step
use Rattle.dis_memory.specs.Step as memory_step
use Rattle.dis_counts.specs.Alike.{world_of}

-- ---- one instruction, over words of a frame that begin at 32

abbrev fp : ℕ → Operand
fp n = operand.Fp (pos n)

abbrev object : Op → Operand → Middle → Operand → Object
object o s m d = record {
  flags = 0;
  stack = 0;
  data_size = 0;
  entry_pc = 0;
  entry_type = 0;
  insts = record { op = o; middle = m; src = s; dst = d } ∷ [];
  types = [];
  items = [];
  «module» = [];
  links = [];
  imports = [];
  catches = [];
}

abbrev first : List Word → Process
first words = record {
  number = 1;
  frame = record { serial = 0; instance = 0; pc = 0; words = replicate 8 (Plain (pos 0)) ++ words };
  below = [];
  made = [];
  printing = None;
}

abbrev world : today.World
world = record { blocks = today.Instance 0 [] ∷ []; frames = 1; outside = opening_world }

-- How it ended, or the words from 32 on with which it went on.
data Did : Type 0 where
  Over : Ending → Did
  On : (pc : ℕ) → List Word → Did
  Else : Did

abbrev behind_linkage : List Word → List Word
behind_linkage (a ∷ b ∷ c ∷ d ∷ e ∷ f ∷ g ∷ h ∷ words) = words
behind_linkage words = words

abbrev did : {W : Type 0} → Effect W Process Value Request Ending → Did
did (Went x p) = On p.frame.pc (behind_linkage p.frame.words)
did (Ends x how) = Over how
did (Parks x bs p) = Else
did (Polls x bs p q) = Else
did (Spawns x child p) = Else
did (Asks x m p) = Else

abbrev today_does : Op → Operand → Middle → Operand → List Word → Did
today_does o s m d words = did (today_step.step 8 (object o s m d ∷ []) world (first words))

abbrev memory_does : Op → Operand → Middle → Operand → List Word → Did
memory_does o s m d words = did (memory_step.step 8 (object o s m d ∷ []) (world_of world) (first words))

-- ---- the same

added : today_does op.Addw (fp 32) middle.None (fp 36) (Plain (pos 2) ∷ Plain (pos 3) ∷ [])
    ≡ On 1 (Plain (pos 2) ∷ Plain (pos 5) ∷ [])
unfolding int_wrap
added = refl

added_with_memory : memory_does op.Addw (fp 32) middle.None (fp 36) (Plain (pos 2) ∷ Plain (pos 3) ∷ [])
    ≡ On 1 (Plain (pos 2) ∷ Plain (pos 5) ∷ [])
unfolding int_wrap
added_with_memory = refl

divided : today_does op.Divw (fp 32) middle.None (fp 36) (Plain (pos 0) ∷ Plain (pos 3) ∷ [])
    ≡ Over (Broken (codes "zero divide"))
divided = refl

divided_with_memory : memory_does op.Divw (fp 32) middle.None (fp 36) (Plain (pos 0) ∷ Plain (pos 3) ∷ [])
    ≡ Over (Broken (codes "zero divide"))
divided_with_memory = refl

-- ---- where today's machine faults

-- Two references are compared.
compared : today_does op.Beqw (fp 32) (middle.Fp (pos 36)) (operand.Imm (pos 0)) (Refer None ∷ Refer None ∷ [])
    ≡ Over (Faulted 110 0)
compared = refl

compared_with_memory : memory_does op.Beqw (fp 32) (middle.Fp (pos 36)) (operand.Imm (pos 0)) (Refer None ∷ Refer None ∷ [])
    ≡ On 0 (Refer None ∷ Refer None ∷ [])
compared_with_memory = refl

-- What is behind nil is read.
nil_read : today_does op.Movw (operand.IndFp (pos 32) (pos 0)) middle.None (fp 36) (Refer None ∷ Plain (pos 0) ∷ [])
    ≡ Over (Faulted 110 0)
nil_read = refl

nil_read_with_memory : memory_does op.Movw (operand.IndFp (pos 32) (pos 0)) middle.None (fp 36) (Refer None ∷ Plain (pos 0) ∷ [])
    ≡ Over (Broken (codes "dereference of nil"))
nil_read_with_memory = refl

-- Bytes amid words are moved.
bytes_moved : today_does op.Movm (fp 33) (middle.Imm (pos 1)) (fp 36) (Plain (pos 65536) ∷ Plain (pos 0) ∷ [])
    ≡ Over (Faulted 110 0)
bytes_moved = refl

bytes_moved_with_memory : memory_does op.Movm (fp 33) (middle.Imm (pos 1)) (fp 36) (Plain (pos 65536) ∷ Plain (pos 0) ∷ [])
    ≡ On 1 (Plain (pos 65536) ∷ Plain (pos 16777216) ∷ [])
bytes_moved_with_memory = refl

-- The length of a string, an instruction that only the machine with memory has.
long : today_does op.Lenc (fp 32) middle.None (fp 36) (Refer None ∷ Plain (pos 7) ∷ [])
    ≡ Over (Faulted 110 0)
long = refl

long_with_memory : memory_does op.Lenc (fp 32) middle.None (fp 36) (Refer None ∷ Plain (pos 7) ∷ [])
    ≡ On 1
    (Refer None ∷ Plain (pos 0) ∷ [])
long_with_memory = refl
