-- Instructions that move a value of a type from one place to another.
use Rattle.std.specs.Prelude.{ℕ, pos, ℤ, negsuc, Bool, true, false, ◌&&◌, int_le, List, [], ◌∷◌, ◌++◌, if◌then◌else◌}
use Rattle.limbo_types.specs.Types as ty
use Rattle.limbo_types.specs.Types.{Ty}
use Rattle.limbo_layout.specs.Adts.{Def}
use Rattle.dis_isa.specs.declared.inst.Inst as code_inst
use Rattle.dis_isa.specs.declared.inst.Middle.{Middle}
use Rattle.dis_isa.specs.declared.inst.Middle.TheVariants as middle
use Rattle.dis_isa.specs.declared.inst.Operand as isa
use Rattle.dis_isa.specs.declared.inst.Operand.TheVariants as operand
use Rattle.dis_isa.specs.declared.op.Op.{Op}
use Rattle.dis_isa.specs.declared.op.Op.TheVariants as op
use Rattle.value_frames.specs.Frames.{passing_place, room_for}

abbrev pub Code : Type 0
Code = List code_inst.Inst

abbrev pub inst : Op → isa.Operand → Middle → isa.Operand → code_inst.Inst
inst o s m d = record { op = o; middle = m; src = s; dst = d }

abbrev pub own : ℕ → isa.Operand
own at = operand.Fp (pos at)

abbrev pub of_own : ℕ → Middle
of_own at = middle.Fp (pos at)

-- A byte of what a word of the frame refers to, or has the address of.
abbrev pub behind : (word at : ℕ) → isa.Operand
behind word at = operand.IndFp (pos word) (pos at)

-- A middle is an immediate of 16 bits.
abbrev pub fits_middle : ℤ → Bool
fits_middle n = int_le (negsuc 32767) n && int_le n (pos 32767)

-- So many bytes as a middle: where they don't fit, they stand in the frame.
abbrev pub sized : ℕ → Code
sized n = if fits_middle (pos n) then [] else inst op.Movw (operand.Imm (pos n)) middle.None (own passing_place) ∷ []

abbrev pub size_middle : ℕ → Middle
size_middle n = if fits_middle (pos n) then middle.Imm (pos n) else of_own passing_place

-- Whether values of a type have words that refer, strings among them.
abbrev pub has_some : List ℕ → Bool
has_some [] = false
has_some (o ∷ os) = true

abbrev pub has_references : List Def → Ty → Bool
has_references defs t = has_some (room_for defs t).references

-- A value of parts goes by its type, which has a number among the object's types; one that refers to nothing as so many bytes.
abbrev pub moved_by : Bool → (type size : ℕ) → isa.Operand → isa.Operand → Code
moved_by true n size a b = inst op.Movmp a (middle.Imm (pos n)) b ∷ []
moved_by false n size a b = sized size ++ (inst op.Movm a (size_middle size) b ∷ [])

abbrev pub moved : List Def → Ty → (type : ℕ) → isa.Operand → isa.Operand → Code
moved defs ty.Nothing n a b = []
moved defs ty.Byte n a b = inst op.Movb a middle.None b ∷ []
moved defs ty.Int n a b = inst op.Movw a middle.None b ∷ []
moved defs ty.Big n a b = inst op.Movl a middle.None b ∷ []
moved defs (ty.Tuple ts) n a b = moved_by (has_references defs (ty.Tuple ts)) n (room_for defs (ty.Tuple ts)).size a b
moved defs (ty.Adt k) n a b = moved_by (has_references defs (ty.Adt k)) n (room_for defs (ty.Adt k)).size a b
moved defs t n a b = inst op.Movp a middle.None b ∷ []
