-- One instruction of a process (Dis Virtual Machine Specification, the instructions by name). A source is looked at first, then the
-- middle, then the destination; the first of them that is wrong decides, and what is raised comes behind all of them.
use Rattle.std.specs.Prelude.{ℕ, List, [], ◌∷◌, Option, Some, None, slice_get}
use Rattle.dis_isa.specs.declared.inst.Inst.{Inst}
use Rattle.dis_isa.specs.declared.op.Op.{Op}
use Rattle.dis_isa.specs.declared.op.Op.TheVariants as op
use Rattle.dis_file.specs.declared.object.Object.{Object}
use Rattle.dis_file.specs.declared.types.TypeDesc.{TypeDesc}
use Rattle.limbo_values.specs.declared.number.Kind.TheVariants.{Byte, Int, Big}
use Rattle.limbo_values.specs.declared.operator.Comparison.{Comparison}
use Rattle.dis_meaning.specs.Words.{Access, Found, Wrong, ◌>>=◌, type_check, bad_jump, or_wrong}
use Rattle.dis_meaning.specs.Process.{Process}
use Rattle.dis_meaning.specs.Numbers.{Row, number_row}
use Rattle.dis_memory.specs.Blocks.{Block, Instance, World, block}
use Rattle.dis_memory.specs.Process.{Does, or_fault}
use Rattle.dis_memory.specs.Data as data_ops
use Rattle.dis_memory.specs.Arrays as arrays
use Rattle.dis_memory.specs.Strings as strings
use Rattle.dis_memory.specs.Strings.{text_row}
use Rattle.dis_memory.specs.Lists as lists
use Rattle.dis_memory.specs.Numbers as numbers
use Rattle.dis_memory.specs.Control as control

-- Types of a byte, of a word, of a reference and of a big.
abbrev pub type_of_size : (size : ℕ) → (map : List ℕ) → TypeDesc
type_of_size size map = record { size = size; map = map }

module _ (limit : ℕ) (o : Object) (x : World) (p : Process) (i : Inst) where
  -- What is in neither table isn't in this part.
  abbrev pub by_texts : Option Comparison → Access Does
  by_texts (Some c) = strings.compares o x p i c
  by_texts None = Wrong type_check

  abbrev pub by_numbers : Op → Option Row → Access Does
  by_numbers operation (Some row) = numbers.by_row o x p i row
  by_numbers operation None = by_texts (text_row operation)

  -- What an instruction does. Operations on numbers and comparisons of strings are those of their tables.
  abbrev pub obey : Op → Access Does
  obey op.Movw = data_ops.movw o x p i
  obey op.Movp = data_ops.movp o x p i
  obey op.Movm = data_ops.movm o x p i
  obey op.Movmp = data_ops.movmp o x p i
  obey op.Lea = data_ops.lea o x p i
  obey op.New = arrays.new o x p i
  obey op.Newz = arrays.new o x p i
  obey op.Newa = arrays.newa o x p i
  obey op.Newaz = arrays.newa o x p i
  obey op.Indx = arrays.indx o x p i
  obey op.Indb = arrays.ind_of o x p i 1
  obey op.Indw = arrays.ind_of o x p i 4
  obey op.Indl = arrays.ind_of o x p i 8
  obey op.Lena = arrays.lena o x p i
  obey op.Slicea = arrays.slicea o x p i
  obey op.Slicela = arrays.slicela o x p i
  obey op.Addc = strings.addc o x p i
  obey op.Lenc = strings.lenc o x p i
  obey op.Indc = strings.indc o x p i
  obey op.Insc = strings.insc o x p i
  obey op.Slicec = strings.slicec o x p i
  obey op.Cvtwc = strings.text_of_number o x p i Int
  obey op.Cvtlc = strings.text_of_number o x p i Big
  obey op.Cvtcw = strings.number_of_text o x p i Int
  obey op.Cvtcl = strings.number_of_text o x p i Big
  obey op.Cvtca = strings.cvtca o x p i
  obey op.Cvtac = strings.cvtac o x p i
  obey op.Consb = lists.cons_number o x p i Byte
  obey op.Consw = lists.cons_number o x p i Int
  obey op.Consl = lists.cons_number o x p i Big
  obey op.Consp = lists.consp o x p i
  obey op.Consm = lists.consm o x p i
  obey op.Consmp = lists.consmp o x p i
  obey op.Headb = lists.head_number o x p i Byte
  obey op.Headw = lists.head_number o x p i Int
  obey op.Headl = lists.head_number o x p i Big
  obey op.Headp = lists.headp o x p i
  obey op.Headm = lists.headm o x p i
  obey op.Headmp = lists.headmp o x p i
  obey op.Tail = lists.tail o x p i
  obey op.Lenl = lists.lenl o x p i
  obey op.Newcb = lists.newc o x p i (type_of_size 1 [])
  obey op.Newcw = lists.newc o x p i (type_of_size 4 [])
  obey op.Newcl = lists.newc o x p i (type_of_size 8 [])
  obey op.Newcp = lists.newc o x p i (type_of_size 4 (128 ∷ []))
  obey op.Newcm = lists.newcm o x p i
  obey op.Newcmp = lists.newcmp o x p i
  obey op.Jmp = control.jmp limit o x p i
  obey op.Frame = control.frame limit o x p i
  obey op.Call = control.call limit o x p i
  obey op.Ret = control.ret limit o x p i
  obey op.Load = control.load limit o x p i
  obey op.Mcall = control.mcall limit o x p i
  obey operation = by_numbers operation (number_row operation)

-- The instruction at the frame's place.
abbrev pub work : (limit : ℕ) → Object → World → Process → Access Does
work limit o x p = or_wrong bad_jump (slice_get o.insts p.frame.pc) >>= λ i. obey limit o x p i i.op

abbrev pub object_of : Block → Access ℕ
object_of (Instance n words) = Found n
object_of _ = Wrong type_check

module _ (limit : ℕ) (objects : List Object) where
  -- The object whose code a process runs.
  abbrev pub code_of : World → Process → Access Object
  code_of x p = block x p.frame.instance >>= object_of >>= λ n. or_wrong type_check (slice_get objects n)

  abbrev pub step : World → Process → Does
  step x p = or_fault x p (code_of x p >>= λ o. work limit o x p)
