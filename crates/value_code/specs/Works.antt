-- The machine's code of operations: their operands stand in slots, and so does what they give.
use Rattle.std.specs.Prelude.{ℕ, pos, negsuc, ◌+◌, Bool, true, false, List, [], ◌∷◌, ◌++◌, if◌then◌else◌}
use Rattle.limbo_types.specs.Types as ty
use Rattle.limbo_types.specs.Types.{Ty}
use Rattle.limbo_layout.specs.Adts.{Def}
use Rattle.limbo_values.specs.declared.number.Kind.{Kind}
use Rattle.limbo_values.specs.declared.number.Kind.TheVariants.{Byte, Int, Big}
use Rattle.limbo_values.specs.declared.operator.Operator.{Operator}
use Rattle.limbo_values.specs.declared.operator.Operator.TheVariants as operator
use Rattle.limbo_values.specs.declared.operator.Shift.{Shift}
use Rattle.limbo_values.specs.declared.operator.Shift.TheVariants as shift
use Rattle.limbo_values.specs.declared.operator.Unary.{Unary}
use Rattle.limbo_values.specs.declared.operator.Unary.TheVariants as unary
use Rattle.limbo_values.specs.declared.operator.Comparison.{Comparison}
use Rattle.limbo_values.specs.declared.operator.Comparison.TheVariants as comparison
use Rattle.limbo_typed.specs.declared.operation.Operation.{Operation}
use Rattle.limbo_typed.specs.declared.operation.Operation.TheVariants as operation
use Rattle.limbo_typed.specs.declared.operation.Sequence.{Sequence}
use Rattle.limbo_typed.specs.declared.operation.Sequence.TheVariants as sequence
use Rattle.limbo_typed.specs.Fitting.{of_kind}
use Rattle.limbo_meaning.specs.Operations.{item_of}
use Rattle.dis_isa.specs.declared.inst.Inst as code_inst
use Rattle.dis_isa.specs.declared.inst.Middle.{Middle}
use Rattle.dis_isa.specs.declared.inst.Middle.TheVariants as middle
use Rattle.dis_isa.specs.declared.inst.Operand as isa
use Rattle.dis_isa.specs.declared.inst.Operand.TheVariants as operand
use Rattle.dis_isa.specs.declared.op.Op.{Op}
use Rattle.dis_isa.specs.declared.op.Op.TheVariants as op
use Rattle.value_frames.specs.Frames.{Form, Boxed, form_of, passing_place, room_for}
use Rattle.value_moves.specs.Operands.{Code, inst, own, of_own, sized, size_middle, has_references, moved}
use Rattle.value_code.specs.Data.{nil_word}
use Rattle.value_code.specs.Operands.{Scene, number, number_middle, reference, reference_middle, in_box, in_slot, first_slot, second_slot}

abbrev pub jump_to : ℕ → code_inst.Inst
jump_to pc = inst op.Jmp operand.None middle.None (operand.Imm (pos pc))

-- ---- opcodes by kinds, and by forms of elements

abbrev pub by_kind : (byte int big : Op) → Kind → Op
by_kind b w l Byte = b
by_kind b w l Int = w
by_kind b w l Big = l

abbrev pub arithmetic_op : Operator → Kind → Op
arithmetic_op operator.Add = by_kind op.Addb op.Addw op.Addl
arithmetic_op operator.Subtract = by_kind op.Subb op.Subw op.Subl
arithmetic_op operator.Multiply = by_kind op.Mulb op.Mulw op.Mull
arithmetic_op operator.Divide = by_kind op.Divb op.Divw op.Divl
arithmetic_op operator.Remainder = by_kind op.Modb op.Modw op.Modl
arithmetic_op operator.And = by_kind op.Andb op.Andw op.Andl
arithmetic_op operator.Xor = by_kind op.Xorb op.Xorw op.Xorl
arithmetic_op operator.Or = by_kind op.Orb op.Orw op.Orl

abbrev pub shift_op : Shift → Kind → Op
shift_op shift.Left = by_kind op.Shlb op.Shlw op.Shll
shift_op shift.Right = by_kind op.Shrb op.Shrw op.Shrl

abbrev pub branch_op : Comparison → Kind → Op
branch_op comparison.Equal = by_kind op.Beqb op.Beqw op.Beql
branch_op comparison.Unequal = by_kind op.Bneb op.Bnew op.Bnel
branch_op comparison.Less = by_kind op.Bltb op.Bltw op.Bltl
branch_op comparison.AtMost = by_kind op.Bleb op.Blew op.Blel
branch_op comparison.Greater = by_kind op.Bgtb op.Bgtw op.Bgtl
branch_op comparison.AtLeast = by_kind op.Bgeb op.Bgew op.Bgel

abbrev pub text_branch_op : Comparison → Op
text_branch_op comparison.Equal = op.Beqc
text_branch_op comparison.Unequal = op.Bnec
text_branch_op comparison.Less = op.Bltc
text_branch_op comparison.AtMost = op.Blec
text_branch_op comparison.Greater = op.Bgtc
text_branch_op comparison.AtLeast = op.Bgec

abbrev pub move_op : Kind → Op
move_op = by_kind op.Movb op.Movw op.Movl

-- A value of parts goes by its type where it refers to something, and else as so many bytes; so does one of no words.
abbrev pub by_type : (byte int big reference typed bytes : Op) → Bool → Ty → Op
by_type b w l p m z r ty.Byte = b
by_type b w l p m z r ty.Int = w
by_type b w l p m z r ty.Big = l
by_type b w l p m z r (ty.Tuple ts) = if r then m else z
by_type b w l p m z r (ty.Adt n) = if r then m else z
by_type b w l p m z r ty.Nothing = z
by_type b w l p m z r t = p

abbrev pub cons_op : Bool → Ty → Op
cons_op = by_type op.Consb op.Consw op.Consl op.Consp op.Consmp op.Consm

abbrev pub head_op : Bool → Ty → Op
head_op = by_type op.Headb op.Headw op.Headl op.Headp op.Headmp op.Headm

abbrev pub channel_op : Bool → Ty → Op
channel_op = by_type op.Newcb op.Newcw op.Newcl op.Newcp op.Newcmp op.Newcm

-- What such an instruction has for its middle: the number of the type, or so many bytes, which may have to be put into the frame first.
abbrev pub parts_middle : Bool → (type size : ℕ) → Middle
parts_middle true n size = middle.Imm (pos n)
parts_middle false n size = size_middle size

abbrev pub element_middle : List Def → Ty → (type : ℕ) → Middle
element_middle defs (ty.Tuple ts) n = parts_middle (has_references defs (ty.Tuple ts)) n (room_for defs (ty.Tuple ts)).size
element_middle defs (ty.Adt k) n = parts_middle (has_references defs (ty.Adt k)) n (room_for defs (ty.Adt k)).size
element_middle defs ty.Nothing n = middle.Imm (pos 0)
element_middle defs t n = middle.None

abbrev pub element_sized : List Def → Ty → Code
element_sized defs (ty.Tuple ts) = if has_references defs (ty.Tuple ts) then [] else sized (room_for defs (ty.Tuple ts)).size
element_sized defs (ty.Adt k) = if has_references defs (ty.Adt k) then [] else sized (room_for defs (ty.Adt k)).size
element_sized defs t = []

-- ---- forms of code

-- A slot whose values have a record of their own gets a new one, of a type by its number.
abbrev pub prepared : Form → (type : ℕ) → isa.Operand → Code
prepared Boxed n d = inst op.New (operand.Imm (pos n)) middle.None d ∷ []
prepared f n d = []

-- 1 where the instruction branches, and else 0. The code begins here.
abbrev pub decided : (here : ℕ) → Op → isa.Operand → Middle → isa.Operand → Code
decided here o s m d =
    inst o s m (operand.Imm (pos (here + 3))) ∷ inst op.Movw (operand.Imm (pos 0)) middle.None d ∷ jump_to (here + 4)
    ∷ inst op.Movw (operand.Imm (pos 1)) middle.None d ∷ []

module _ (s : Scene) where
  -- A big comes to the frame, so that it can stand in the middle.
  abbrev pub passed_big : (slot : ℕ) → code_inst.Inst
  passed_big r = inst op.Movl (in_box s r 0) middle.None (own passing_place)

  -- The left operand goes first to where the result stands; the right one is the source.
  abbrev pub calculated : Op → Kind → (left : ℕ) → (right : isa.Operand) → (into type : ℕ) → Code
  calculated o Big a b into n =
      inst op.New (operand.Imm (pos n)) middle.None (reference s into)
      ∷ inst op.Movl (in_box s a 0) middle.None (in_box s into 0) ∷ inst o b middle.None (in_box s into 0) ∷ []
  calculated o k a b into n = inst o b (number_middle s a) (number s into) ∷ []

  abbrev pub compared : (here : ℕ) → Comparison → Kind → (left right into : ℕ) → Code
  compared here c Big a b into =
      passed_big b ∷ decided (here + 1) (branch_op c Big) (in_box s a 0) (of_own passing_place) (number s into)
  compared here c k a b into = decided here (branch_op c k) (number s a) (number_middle s b) (number s into)

  -- One operand beside a constant: `-a` is 0 - a, `~a` is -1 - a.
  abbrev pub altered : Unary → Kind → isa.Operand → isa.Operand → code_inst.Inst
  altered unary.Plus k a d = inst (move_op k) a middle.None d
  altered unary.Minus k a d = inst (arithmetic_op operator.Subtract k) a (middle.Imm (pos 0)) d
  altered unary.Complement k a d = inst (arithmetic_op operator.Subtract k) a (middle.Imm (negsuc 0)) d
  altered unary.Increment k a d = inst (arithmetic_op operator.Add k) a (middle.Imm (pos 1)) d
  altered unary.Decrement k a d = inst (arithmetic_op operator.Add k) a (middle.Imm (negsuc 0)) d

  -- A byte becomes a big by way of an int, and a big a byte.
  abbrev pub converted : (from to : Kind) → isa.Operand → isa.Operand → Code
  converted Byte Int a d = inst op.Cvtbw a middle.None d ∷ []
  converted Int Byte a d = inst op.Cvtwb a middle.None d ∷ []
  converted Int Big a d = inst op.Cvtwl a middle.None d ∷ []
  converted Big Int a d = inst op.Cvtlw a middle.None d ∷ []
  converted Byte Big a d = inst op.Cvtbw a middle.None (own passing_place) ∷ inst op.Cvtwl (own passing_place) middle.None d ∷ []
  converted Big Byte a d = inst op.Cvtlw a middle.None (own passing_place) ∷ inst op.Cvtwb (own passing_place) middle.None d ∷ []
  converted k j a d = inst (move_op k) a middle.None d ∷ []

  abbrev pub read_number : Kind → isa.Operand → isa.Operand → Code
  read_number Big a d = inst op.Cvtcl a middle.None d ∷ []
  read_number Int a d = inst op.Cvtcw a middle.None d ∷ []
  read_number Byte a d = inst op.Cvtcw a middle.None (own passing_place) ∷ inst op.Cvtwb (own passing_place) middle.None d ∷ []

  abbrev pub number_text : Kind → isa.Operand → isa.Operand → Code
  number_text Big a d = inst op.Cvtlc a middle.None d ∷ []
  number_text Int a d = inst op.Cvtwc a middle.None d ∷ []
  number_text Byte a d = inst op.Cvtbw a middle.None (own passing_place) ∷ inst op.Cvtwc (own passing_place) middle.None d ∷ []

  abbrev pub length_op : Sequence → Op
  length_op sequence.Chars = op.Lenc
  length_op sequence.Array = op.Lena
  length_op sequence.List = op.Lenl

  abbrev pub slice_op : Sequence → Op
  slice_op sequence.Chars = op.Slicec
  slice_op q = op.Slicea

  -- A slice: the bounds that are written stand in slots behind the whole; else they are 0 and the length, which is looked up.
  abbrev pub from_source : Bool → (slots : List ℕ) → isa.Operand
  from_source true rs = number s (second_slot rs)
  from_source false rs = operand.Imm (pos 0)

  abbrev pub slot_third : List ℕ → ℕ
  slot_third (a ∷ b ∷ c ∷ rs) = c
  slot_third rs = 0

  abbrev pub to_middle : (from to : Bool) → (slots : List ℕ) → Middle
  to_middle true true rs = number_middle s (slot_third rs)
  to_middle false true rs = number_middle s (second_slot rs)
  to_middle f false rs = of_own passing_place

  abbrev pub length_if : Bool → Sequence → (slot : ℕ) → Code
  length_if true q r = []
  length_if false q r = inst (length_op q) (reference s r) middle.None (own passing_place) ∷ []

  abbrev pub slicing : Sequence → (from to : Bool) → (slots : List ℕ) → (into : ℕ) → Code
  slicing q f t rs into =
      length_if t q (first_slot rs) ++ (inst op.Movp (reference s (first_slot rs)) middle.None (reference s into)
      ∷ inst (slice_op q) (from_source f rs) (to_middle f t rs) (reference s into) ∷ [])

  -- An operation whose result is of a type. Types of the object have numbers: that of a record for it, that of its items as elements of an
  -- array, and that of a record for one of these. The code begins here.
  abbrev pub operated : (here : ℕ) → Ty → Operation → (slots : List ℕ) → (into type element item : ℕ) → Code
  operated here t (operation.Arithmetic o k) rs into n e i =
      calculated (arithmetic_op o k) k (first_slot rs) (in_slot s (of_kind k) (second_slot rs)) into n
  operated here t (operation.Shift h k) rs into n e i = calculated (shift_op h k) k (first_slot rs) (number s (second_slot rs)) into n
  operated here t (operation.Alter u k) rs into n e i =
      prepared (form_of t) n (reference s into) ++ (altered u k (in_slot s t (first_slot rs)) (in_slot s t into) ∷ [])
  operated here t (operation.Compare c k) rs into n e i = compared here c k (first_slot rs) (second_slot rs) into
  operated here t (operation.CompareChars c) rs into n e i =
      decided here (text_branch_op c) (reference s (first_slot rs)) (reference_middle s (second_slot rs)) (number s into)
  operated here t operation.Identical rs into n e i =
      decided here op.Beqw (reference s (first_slot rs)) (reference_middle s (second_slot rs)) (number s into)
  operated here t operation.Distinct rs into n e i =
      decided here op.Bnew (reference s (first_slot rs)) (reference_middle s (second_slot rs)) (number s into)
  operated here t operation.Not rs into n e i = decided here op.Beqw (number s (first_slot rs)) (middle.Imm (pos 0)) (number s into)
  operated here t (operation.Convert from to) rs into n e i =
      prepared (form_of t) n (reference s into) ++ converted from to (in_slot s (of_kind from) (first_slot rs)) (in_slot s t into)
  operated here t (operation.ReadNumber k) rs into n e i =
      prepared (form_of t) n (reference s into) ++ read_number k (reference s (first_slot rs)) (in_slot s t into)
  operated here t (operation.NumberText k) rs into n e i = number_text k (in_slot s (of_kind k) (first_slot rs)) (reference s into)
  operated here t operation.BytesText rs into n e i = inst op.Cvtac (reference s (first_slot rs)) middle.None (reference s into) ∷ []
  operated here t operation.TextBytes rs into n e i = inst op.Cvtca (reference s (first_slot rs)) middle.None (reference s into) ∷ []
  operated here t operation.Join rs into n e i =
      inst op.Addc (reference s (second_slot rs)) (reference_middle s (first_slot rs)) (reference s into) ∷ []
  operated here t operation.Cons rs into n e i =
      inst op.Movp (reference s (second_slot rs)) middle.None (reference s into) ∷ element_sized s.adts (item_of t)
      ++ (inst (cons_op (has_references s.adts (item_of t)) (item_of t)) (in_slot s (item_of t) (first_slot rs))
      (element_middle s.adts (item_of t) e) (reference s into) ∷ [])
  operated here t operation.Head rs into n e i =
      prepared (form_of t) n (reference s into) ++ (element_sized s.adts t
      ++ (inst (head_op (has_references s.adts t) t) (reference s (first_slot rs)) (element_middle s.adts t n) (in_slot s t into) ∷ []))
  operated here t operation.Tail rs into n e i = inst op.Tail (reference s (first_slot rs)) middle.None (reference s into) ∷ []
  operated here t (operation.Length q) rs into n e i =
      inst (length_op q) (reference s (first_slot rs)) middle.None (number s into) ∷ []
  operated here t operation.Tag rs into n e i = inst op.Movw (in_box s (first_slot rs) 0) middle.None (number s into) ∷ []
  operated here t operation.Ref rs into n e i =
      inst op.New (operand.Imm (pos i)) middle.None (reference s into)
      ∷ moved s.adts (item_of t) i (in_box s (first_slot rs) 0) (in_box s into 0)
  operated here t operation.List rs into n e i = inst op.Movp nil_word middle.None (reference s into) ∷ []
  operated here t operation.NewArray rs into n e i =
      inst op.Newaz (number s (first_slot rs)) (middle.Imm (pos e)) (reference s into) ∷ []
  operated here t (operation.Slice q f g) rs into n e i = slicing q f g rs into
  operated here t operation.Character rs into n e i =
      inst op.Indc (reference s (first_slot rs)) (number_middle s (second_slot rs)) (number s into) ∷ []
  operated here t o rs into n e i = []
