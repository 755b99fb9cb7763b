-- The code of single instructions, and the object of a small module, written out by hand.
use Rattle.std.proofs.Common.{◌≡◌, ℕ, ℤ, zero, ◌+◌, ◌-◌, ◌*◌, pos, false, [], ◌∷◌, None, Some, codes, refl}
use Rattle.std.specs.Prelude.{slice_get}
use Rattle.limbo_types.specs.Types as ty
use Rattle.limbo_types.specs.Types.{Ty}
use Rattle.limbo_values.specs.declared.number.Kind.TheVariants as kind
use Rattle.limbo_values.specs.declared.operator.Operator.TheVariants as operator
use Rattle.limbo_typed.specs.Typed as typed
use Rattle.limbo_typed.specs.declared.operation.Operation.TheVariants as operation
use Rattle.limbo_typed.specs.declared.operation.Connective.TheVariants as connective
use Rattle.limbo_typed.specs.declared.print.Hole.TheVariants as hole
use Rattle.limbo_typed.specs.declared.print.Piece.TheVariants as piece
use Rattle.limbo_meaning.specs.Places.{Global, Element}
use Rattle.limbo_meaning.specs.Trees as tree
use Rattle.dis_isa.specs.declared.inst.Inst.{Inst}
use Rattle.dis_isa.specs.declared.inst.Middle.{Middle}
use Rattle.dis_isa.specs.declared.inst.Middle.TheVariants as middle
use Rattle.dis_isa.specs.declared.inst.Operand.{Operand}
use Rattle.dis_isa.specs.declared.inst.Operand.TheVariants as operand
use Rattle.dis_isa.specs.declared.op.Op.{Op}
use Rattle.dis_isa.specs.declared.op.Op.TheVariants as op
use Rattle.core_code.specs.Code as core
use Rattle.core_code.specs.Code.{Instr}
use Rattle.value_code.specs.Data.{Word, Named, OfTurn, OfRegion, PrintFrame}
use Rattle.value_code.specs.Operands.{Scene}
use Rattle.value_code.specs.Code.{Site, code_of, data_of}
use Rattle.value_code.specs.Objects.{datum_bytes, object_of}

-- ---- operands as the assembler writes them: n(fp), n(mp), n(m(fp)), $n

abbrev fp : ℕ → Operand
fp n = operand.Fp (pos n)

abbrev mp : ℕ → Operand
mp n = operand.Mp (pos n)

abbrev at : (inner outer : ℕ) → Operand
at m n = operand.IndFp (pos m) (pos n)

abbrev imm : ℕ → Operand
imm n = operand.Imm (pos n)

-- instructions with two operands, and with a middle between them
abbrev two : Op → Operand → Operand → Inst
two o s d = record { op = o; middle = middle.None; src = s; dst = d }

abbrev three : Op → Operand → Middle → Operand → Inst
three o s m d = record { op = o; middle = m; src = s; dst = d }

abbrev in_fp : ℕ → Middle
in_fp n = middle.Fp (pos n)

-- the word of the data that refers to nothing
abbrev nil : Middle
nil = middle.Mp (pos 4)

-- ---- A frame with one variable, an int at 32; the spare word is at 36. Slot 0 has its number at 40 and its reference at 44, slot 1 at 48
-- and 52, slot 2 at 56 and 60. The module's variables are a byte at 16 and a list at 20. Code begins at 100; the next instruction's begins
-- at 200, and others follow by tens.

abbrev scene : Scene
scene = record { adts = []; globals = ty.Byte ∷ ty.ListOf ty.Int ∷ []; variables = ty.Int ∷ [] }

abbrev numbers : Named → ℕ
numbers (OfTurn n) = 5
numbers (OfRegion n) = 4
numbers (PrintFrame ps) = 6
numbers t = 3

abbrev site : (told : ℕ → Ty) → Site
site told = record {
  scene = scene;
  entries = λ f. 500;
  answer = ty.Int;
  type_number = numbers;
  frame_number = λ f. 7;
  told = told;
  here = 100;
  past = λ n. 200 + 10 * n;
  back = λ n. 90 - 10 * n;
  at = 64;
}

abbrev ints : ℕ → Ty
ints r = ty.Int

-- addw 48(fp), 40(fp), 56(fp)
adds : code_of (site ints) (core.Give ty.Int (tree.Operate (operation.Arithmetic operator.Add kind.Int)) 2 (0 ∷ 1 ∷ []))
    ≡ three op.Addw (fp 48) (in_fp 40) (fp 56) ∷ []
adds = refl

-- A big gets a record of its own; what is subtracted is the source.
subtracts : code_of (site ints) (core.Give ty.Big (tree.Operate (operation.Arithmetic operator.Subtract kind.Big)) 2 (0 ∷ 1 ∷ []))
    ≡ two op.New (imm 3) (fp 60) ∷ two op.Movl (at 44 0) (at 60 0) ∷ two op.Subl (at 52 0) (at 60 0) ∷ []
subtracts = refl

-- movp 20(mp), 60(fp)
reads_global : code_of (site ints)
    (core.Give (ty.ListOf ty.Int) (tree.Read (record { root = Global 1; parts = []; character = false })) 2 [])
    ≡ two op.Movp (mp 20) (fp 60) ∷ []
reads_global = refl

-- The address of the element goes to 24(fp): the array is in slot 0, the index in slot 1, the int in slot 2.
abbrev an_array : ℕ → Ty
an_array zero = ty.ArrayOf ty.Int
an_array r = ty.Int

writes_element : code_of (site an_array)
    (core.Write ty.Int (record { root = Element; parts = []; character = false }) (0 ∷ 1 ∷ []) [] 2)
    ≡ three op.Indx (fp 44) (in_fp 24) (fp 48) ∷ two op.Movw (fp 56) (at 24 0) ∷ []
writes_element = refl

-- A list goes at once. Of a tuple of a string and a list the list is the one reference that has a number; it stands at 4.
drops_list : code_of (site (λ r. ty.ListOf ty.Int)) (core.Drop 0 0) ≡ two op.Movp (mp 4) (fp 44) ∷ []
drops_list = refl

abbrev pair : Ty
pair = ty.Tuple (ty.MoreTys ty.Chars (ty.MoreTys (ty.ListOf ty.Int) ty.NoTys))

drops_one : code_of (site (λ r. pair)) (core.Drop 0 0)
    ≡ two op.New (imm 3) (fp 36)
    ∷ three op.Movmp (at 44 0) (middle.Imm (pos 3)) (at 36 0)
    ∷ two op.Movp (mp 4) (at 36 4)
    ∷ two op.Movp (fp 36) (fp 44)
    ∷ two op.Movp (mp 4) (fp 36)
    ∷ []
drops_one = refl

-- `a && b`: where a is 0, the value is 0, and b's code is passed; that of Skip ends at 104.
skips : code_of (site ints) (core.Skip connective.And 2 (Some 1) 0 3)
    ≡ three op.Bnew (fp 40) (middle.Imm (pos 0)) (imm 104)
    ∷ two op.Movw (imm 1) (fp 48)
    ∷ two op.Movw (imm 0) (fp 56)
    ∷ three op.Jmp operand.None middle.None (imm 230)
    ∷ two op.Movw (imm 0) (fp 48)
    ∷ []
skips = refl

-- The next index of the array in slot 0 from the number of slot 1 on, but for 4: where it is 4, it is 5, if the array has that.
goes_on : code_of (site an_array) (core.Next 0 1 (pos 4 ∷ []) 5)
    ≡ two op.Movw (fp 48) (fp 24)
    ∷ two op.Lena (fp 44) (fp 20)
    ∷ three op.Bgew (fp 24) (in_fp 20) (imm 250)
    ∷ three op.Bnew (imm 4) (in_fp 24) (imm 106)
    ∷ three op.Addw (imm 1) (in_fp 24) (fp 24)
    ∷ three op.Bgew (fp 24) (in_fp 20) (imm 250)
    ∷ three op.Addw (imm 1) (in_fp 24) (fp 48)
    ∷ []
goes_on = refl

-- Indices are compared in rising order, each once. An immediate has 30 bits: the first of these is one, and the second stands in the data,
-- 8 bytes behind the first.
goes_far : code_of (site an_array) (core.Next 0 1 (pos 536870912 ∷ pos 536870911 ∷ pos 536870912 ∷ []) 5)
    ≡ two op.Movw (fp 48) (fp 24)
    ∷ two op.Lena (fp 44) (fp 20)
    ∷ three op.Bgew (fp 24) (in_fp 20) (imm 250)
    ∷ three op.Bnew (imm 536870911) (in_fp 24) (imm 106)
    ∷ three op.Addw (imm 1) (in_fp 24) (fp 24)
    ∷ three op.Bgew (fp 24) (in_fp 20) (imm 250)
    ∷ three op.Bnew (mp 72) (in_fp 24) (imm 109)
    ∷ three op.Addw (imm 1) (in_fp 24) (fp 24)
    ∷ three op.Bgew (fp 24) (in_fp 20) (imm 250)
    ∷ three op.Addw (imm 1) (in_fp 24) (fp 48)
    ∷ []
goes_far = refl

far_data : data_of [] ty.Int an_array (core.Next 0 1 (pos 536870912 ∷ pos 536870911 ∷ pos 536870912 ∷ []) 5)
    ≡ Word (pos 536870911) ∷ Word (pos 536870912) ∷ []
far_data = refl

word_takes : (m : typed.Module) (z : ℤ) → datum_bytes m (Word z) ≡ 8
word_takes m z = refl

-- indx 44(fp), 24(fp), 64(mp); movw 56(fp), 0(24(fp))
fills_far : code_of (site an_array) (core.Element ty.Int 0 (pos 536870912) 2)
    ≡ three op.Indx (fp 44) (in_fp 24) (mp 64) ∷ two op.Movw (fp 56) (at 24 0) ∷ []
fills_far = refl

fills_near : code_of (site an_array) (core.Element ty.Int 0 (pos 4) 2)
    ≡ three op.Indx (fp 44) (in_fp 24) (imm 4) ∷ two op.Movw (fp 56) (at 24 0) ∷ []
fills_near = refl

-- An int in slot 0 comes to the record of slot 1, which is made with it; a list in slot 0 comes behind it, and its slot is let go.
abbrev int_alone : ty.Ty
int_alone = ty.Tuple (ty.MoreTys ty.Int ty.NoTys)

places_first : code_of (site ints) (core.Place int_alone None 0 0 1 0) ≡ two op.New (imm 3) (fp 52) ∷ two op.Movw (fp 40) (at 52 0) ∷ []
places_first = refl

places_second :
    code_of (site ints) (core.Place (ty.Tuple (ty.MoreTys ty.Int (ty.MoreTys (ty.ListOf ty.Int) ty.NoTys))) None 1 1 1 0)
    ≡ two op.Movp (fp 44) (at 52 4) ∷ two op.Movp (mp 4) (fp 44) ∷ []
places_second = refl

-- The tuple is whole then; one without operands begins here.
gathers : code_of (site ints) (core.Gather int_alone (tree.Operate operation.Tuple) 1 1) ≡ three op.Jmp operand.None middle.None (imm 200) ∷ []
gathers = refl

gathers_none : code_of (site ints) (core.Gather (ty.Tuple ty.NoTys) (tree.Operate operation.Tuple) 1 0) ≡ two op.New (imm 3) (fp 52) ∷ []
gathers_none = refl

-- A call of function 5 with an int: the frame is of type 7, the argument at 32, and the answer goes to slot 2.
calls : code_of (site (λ r. int_alone)) (core.Call ty.Int 5 2 (Some 1))
    ≡ two op.Frame (imm 7) (fp 28)
    ∷ three op.Movm (at 52 0) (middle.Imm (pos 4)) (at 28 32)
    ∷ two op.Lea (fp 56) (at 28 16)
    ∷ two op.Call (fp 28) (imm 500)
    ∷ []
calls = refl

-- A region of two slots from slot 1 on goes to the chain of slot 0, where there is none (114), one record (111), or more.
keeps : code_of (site ints) (core.Keep 0 1 2)
    ≡ two op.New (imm 5) (fp 36)
    ∷ three op.Movmp (fp 48) (middle.Imm (pos 4)) (at 36 8)
    ∷ two op.New (imm 5) (fp 52)
    ∷ three op.Movmp (at 52 8) (middle.Imm (pos 4)) (fp 48)
    ∷ three op.Beqw (fp 44) nil (imm 114)
    ∷ three op.Beqw (at 44 4) nil (imm 111)
    ∷ two op.Movp (at 44 4) (fp 52)
    ∷ two op.Movp (fp 36) (at 52 0)
    ∷ two op.Movp (fp 36) (at 44 4)
    ∷ two op.Movp (mp 4) (fp 52)
    ∷ three op.Jmp operand.None middle.None (imm 115)
    ∷ two op.Movp (fp 36) (at 44 0)
    ∷ two op.Movp (fp 36) (at 44 4)
    ∷ three op.Jmp operand.None middle.None (imm 115)
    ∷ two op.Movp (fp 36) (fp 44)
    ∷ two op.Movp (mp 4) (fp 36)
    ∷ []
keeps = refl

-- It comes back from the first record; the next one gets the last, unless that is the next one itself.
takes : code_of (site ints) (core.Take 0 1 2 3)
    ≡ three op.Beqw (fp 44) nil (imm 230)
    ∷ two op.Movp (fp 44) (fp 36)
    ∷ three op.Movmp (at 36 8) (middle.Imm (pos 4)) (fp 48)
    ∷ two op.Movp (at 36 0) (fp 44)
    ∷ three op.Beqw (fp 44) nil (imm 107)
    ∷ three op.Beqw (at 36 4) (in_fp 44) (imm 107)
    ∷ two op.Movp (at 36 4) (at 44 4)
    ∷ two op.Movp (mp 4) (fp 36)
    ∷ []
takes = refl

-- print("n=%d", n): the format is at 64 in the data, and the number of bytes goes to slot 2, which has Sys until then.
prints : code_of (site (λ r. ty.Tuple (ty.MoreTys ty.Chars (ty.MoreTys ty.Int ty.NoTys))))
    (core.Print (piece.Chars (codes "n=") ∷ piece.Hole (hole.Decimal kind.Int) ∷ []) 2 (Some 1))
    ≡ three op.Load (mp 0) (middle.Imm (pos 0)) (fp 60)
    ∷ two op.Frame (imm 6) (fp 28)
    ∷ three op.Movmp (at 52 0) (middle.Imm (pos 3)) (at 28 32)
    ∷ three op.Movm (at 52 4) (middle.Imm (pos 4)) (at 28 36)
    ∷ two op.Movp (mp 64) (at 28 32)
    ∷ two op.Lea (fp 56) (at 28 16)
    ∷ three op.Mcall (fp 28) (middle.Imm (pos 16)) (fp 60)
    ∷ two op.Movp (mp 4) (fp 60)
    ∷ []
prints = refl

-- ---- a module with a byte and an empty `init`

abbrev small : typed.Module
small = record {
  name = codes "Small";
  adts = [];
  modules = [];
  globals = record { name = codes "b"; ty = ty.Byte } ∷ [];
  initials = [];
  functions = record {
    name = codes "init";
    owner = None;
    of = record { args = ty.RefAdt 0 ∷ ty.ListOf ty.Chars ∷ []; answer = ty.Nothing };
    variables = record { name = codes "ctxt"; ty = ty.RefAdt 0 } ∷ record { name = codes "args"; ty = ty.ListOf ty.Chars } ∷ [];
    catches = 0;
    body = typed.NoStmts;
  } ∷ [];
  declared = [];
  interfaces = [];
  system = None;
  exceptions = [];
}

-- lea 20(fp), 16(fp); jmp $2; ret
its_code : (object_of small).insts
    ≡ two op.Lea (fp 20) (fp 16) ∷ three op.Jmp operand.None middle.None (imm 2)
    ∷ three op.Ret operand.None middle.None operand.None ∷ []
its_code = refl

-- The data are 24 bytes, of which the words at 0 and 4 refer. Behind them comes the type of no value, which the return names; and the
-- frame: the linkage, two variables at 32, the spare word, and a slot at 48.
its_types : (object_of small).types
    ≡ record { size = 24; map = 192 ∷ [] } ∷ record { size = 0; map = [] } ∷ record { size = 56; map = 0 ∷ 228 ∷ [] } ∷ []
its_types = refl

its_data : (object_of small).data_size ≡ 24
its_data = refl

its_frame : (object_of small).entry_type ≡ 2
its_frame = refl

its_links : (object_of small).links ≡ record { pc = 0; frame = 2; sign = 0x9A253C94; name = codes "init" } ∷ []
its_links = refl

-- The same without a function ends at once, with a type for its frame.
abbrev empty : typed.Module
empty = record small { functions = [] }

ends : (object_of empty).insts ≡ three op.Ret operand.None middle.None operand.None ∷ []
ends = refl

has_frame : slice_get (object_of empty).types (object_of empty).entry_type ≡ Some (record { size = 24; map = 192 ∷ [] })
has_frame = refl
