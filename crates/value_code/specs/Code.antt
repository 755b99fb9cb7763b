-- The machine's code of each instruction of three-address code, by the types of the values that its slots have.
use Rattle.std.specs.Prelude.{ℕ, zero, suc, ℤ, pos, ◌+◌, ◌-◌, max, Bool, true, false, List, [], ◌∷◌, ◌++◌, length, map, Option, None}
use Rattle.std.specs.Prelude.{Some}
use Rattle.std.specs.Prelude.{slice_index_or, if◌then◌else◌, codes, ◌==◌}
use Rattle.limbo_types.specs.Types as ty
use Rattle.limbo_types.specs.Types.{Ty}
use Rattle.limbo_layout.specs.Adts.{Def}
use Rattle.limbo_values.specs.declared.number.Kind.TheVariants.{Big}
use Rattle.limbo_typed.specs.declared.operation.Connective.{Connective}
use Rattle.limbo_typed.specs.declared.operation.Connective.TheVariants as connective
use Rattle.limbo_typed.specs.declared.print.Hole.{Hole}
use Rattle.limbo_typed.specs.declared.print.Hole.TheVariants as hole
use Rattle.limbo_typed.specs.declared.print.Piece.{Piece}
use Rattle.limbo_typed.specs.declared.print.Piece.TheVariants as piece
use Rattle.limbo_typed.specs.declared.stmt.Constant.{Constant}
use Rattle.limbo_typed.specs.declared.stmt.Constant.TheVariants as constant
use Rattle.limbo_meaning.specs.Values.{Value, Num}
use Rattle.limbo_meaning.specs.Operations.{item_of}
use Rattle.limbo_meaning.specs.Places.{Way, count_of}
use Rattle.limbo_meaning.specs.Trees as tree
use Rattle.limbo_meaning.specs.Trees.{Work}
use Rattle.dis_isa.specs.declared.inst.Inst as code_inst
use Rattle.dis_isa.specs.declared.inst.Middle.{Middle}
use Rattle.dis_isa.specs.declared.inst.Middle.TheVariants as middle
use Rattle.dis_isa.specs.declared.inst.Operand as isa
use Rattle.dis_isa.specs.declared.inst.Operand.TheVariants as operand
use Rattle.dis_isa.specs.declared.op.Op.{Op}
use Rattle.dis_isa.specs.declared.op.Op.TheVariants as op
use Rattle.core_code.specs.Code as core
use Rattle.core_code.specs.Code.{Instr, Function}
use Rattle.core_code.specs.Terms.{part_types}
use Rattle.core_typing.specs.Needs.{variant_made}
use Rattle.value_frames.specs.Frames.{Form, Nowhere, AsNumber, AsReference, Boxed, form_of, names_at, row_of, within, linkage_bytes}
use Rattle.value_frames.specs.Frames.{answer_place, passing_place, element_place, made_place, spare_place, number_place, room_for}
use Rattle.value_moves.specs.Operands.{Code, inst, own, of_own, behind, sized, size_middle, has_references, moved}
use Rattle.value_code.specs.Data.{Datum, Text, Word, Long, Zero, path_word, nil_word, fits_source, sorted}
use Rattle.value_code.specs.Data.{Named, OfValue, OfRecord, OfFront, PrintFrame, OfRegion, OfTurn}
use Rattle.value_code.specs.Operands.{Scene, number, number_middle, reference, reference_middle, in_box, in_slot, part_in_slot, at_place}
use Rattle.value_code.specs.Operands.{looked_up, first_slot}
use Rattle.value_code.specs.Works.{jump_to, cons_op, channel_op, element_middle, element_sized, prepared, decided, operated}

-- What the code of an instruction is made with: what its function sees, where each function's code begins, the type of this function's
-- answer, which numbers types have in the object, and the frames of functions; and, at the instruction, what is told of the types of slots,
-- where its code begins, where the code of the place begins that is so far from the next instruction or from this one, and where its data
-- stand.
pub record Site : Type 0 where
  pub scene : Scene
  pub entries : ℕ → ℕ
  pub answer : Ty
  pub type_number : Named → ℕ
  pub frame_number : ℕ → ℕ
  pub told : ℕ → Ty
  pub here : ℕ
  pub past : ℕ → ℕ
  pub back : ℕ → ℕ
  pub at : ℕ

-- ---- data

abbrev pub constant_data : Ty → Constant → List Datum
constant_data t (constant.Chars cs) = Text cs ∷ []
constant_data ty.Big (constant.Number z) = Long z ∷ []
constant_data t (constant.Number z) = Word z ∷ []

-- `%` is doubled where it stands for itself.
abbrev pub doubled : List ℕ → List ℕ
doubled [] = []
doubled (c ∷ cs) = if c == 37 then 37 ∷ 37 ∷ doubled cs else c ∷ doubled cs

abbrev pub hole_text : Hole → List ℕ
hole_text (hole.Decimal Big) = codes "%bd"
hole_text (hole.Decimal k) = codes "%d"
hole_text hole.Character = codes "%c"
hole_text hole.Hexadecimal = codes "%x"
hole_text hole.Chars = codes "%s"
hole_text h = []

abbrev pub format_text : List Piece → List ℕ
format_text [] = []
format_text (piece.Chars cs ∷ ps) = doubled cs ++ format_text ps
format_text (piece.Hole h ∷ ps) = hole_text h ++ format_text ps

-- The zero of a type, where that isn't an immediate or `nil`.
abbrev pub zero_data : Ty → List Datum
zero_data (ty.Tuple ts) = Zero (ty.Tuple ts) ∷ []
zero_data (ty.Adt n) = Zero (ty.Adt n) ∷ []
zero_data t = []

-- ---- a number as a source: an immediate where it fits, else what stands in the data

abbrev pub number_source : Bool → ℤ → (at : ℕ) → isa.Operand
number_source true z at = operand.Imm z
number_source false z at = operand.Mp (pos at)

-- ---- values in a row: how many bytes there are up to the last word that refers

abbrev pub last_end : List ℕ → ℕ
last_end [] = 0
last_end (o ∷ os) = max (o + 4) (last_end os)

abbrev pub front_of : List Def → List Ty → ℕ
front_of defs us = last_end (row_of defs us).references

-- ---- zeros

abbrev pub zeroed : List Def → Ty → (type at : ℕ) → isa.Operand → Code
zeroed defs ty.Nothing n at d = []
zeroed defs ty.Byte n at d = inst op.Movb (operand.Imm (pos 0)) middle.None d ∷ []
zeroed defs ty.Int n at d = inst op.Movw (operand.Imm (pos 0)) middle.None d ∷ []
zeroed defs ty.Big n at d = inst op.Movl (operand.Imm (pos 0)) middle.None d ∷ []
zeroed defs (ty.Tuple ts) n at d = moved defs (ty.Tuple ts) n (operand.Mp (pos at)) d
zeroed defs (ty.Adt k) n at d = moved defs (ty.Adt k) n (operand.Mp (pos at)) d
zeroed defs t n at d = inst op.Movp nil_word middle.None d ∷ []

-- ---- initialisers: the first index from a loop's number on that isn't named. It is looked for where else the address of an element
-- stands, so that the loop stays as it is where none is left.

-- the index behind the one that is looked at
abbrev pub counted : isa.Operand → code_inst.Inst
counted d = inst op.Addw (operand.Imm (pos 1)) (of_own element_place) d

-- Where the array's length is no larger than the index, its turns are passed.
abbrev pub passed_behind : (past : ℕ) → code_inst.Inst
passed_behind past = inst op.Bgew (own element_place) (of_own passing_place) (operand.Imm (pos past))

-- Indices that rise are compared in one pass, three instructions for each, which begin here. Where the one that is looked at is named, the
-- one behind it is looked at, if the array has it. Each index is a datum, 8 bytes behind the one in front.
abbrev pub compared_all : List ℤ → (at here past : ℕ) → Code
compared_all [] at here past = []
compared_all (z ∷ zs) at here past =
    inst op.Bnew (number_source (fits_source z) z at) (of_own element_place) (operand.Imm (pos (here + 3)))
    ∷ counted (own element_place) ∷ passed_behind past ∷ compared_all zs (at + 8) (here + 3) past

module _ (s : Scene) where
  -- What a slot refers to goes.
  abbrev pub let_go : ℕ → code_inst.Inst
  let_go r = inst op.Movp nil_word middle.None (reference s r)

  abbrev pub emptied : Form → ℕ → Code
  emptied AsReference r = let_go r ∷ []
  emptied Boxed r = let_go r ∷ []
  emptied f r = []

  -- ---- constants

  abbrev pub literal : Ty → Constant → (into at type : ℕ) → Code
  literal t (constant.Chars cs) into at n = inst op.Movp (operand.Mp (pos at)) middle.None (reference s into) ∷ []
  literal ty.Big (constant.Number z) into at n =
      prepared Boxed n (reference s into) ++ (inst op.Movl (operand.Mp (pos at)) middle.None (in_box s into 0) ∷ [])
  literal ty.Byte (constant.Number z) into at n = inst op.Movb (number_source (fits_source z) z at) middle.None (number s into) ∷ []
  literal t (constant.Number z) into at n = inst op.Movw (number_source (fits_source z) z at) middle.None (number s into) ∷ []

  abbrev pub known : Value → (into at : ℕ) → Code
  known (Num z) into at = inst op.Movw (number_source (fits_source z) z at) middle.None (number s into) ∷ []
  known v into at = let_go into ∷ []

  -- ---- operands that are put together: a record is made with the first; each moves to its part, and its slot is let go

  -- the number of a variant
  abbrev pub tagged : Option ℕ → (into : ℕ) → Code
  tagged (Some v) into = inst op.Movw (operand.Imm (pos v)) middle.None (in_box s into 0) ∷ []
  tagged None into = []

  abbrev pub begun : (type : ℕ) → Option ℕ → (into : ℕ) → Code
  begun n v into = prepared Boxed n (reference s into) ++ tagged v into

  abbrev pub begun_first : (type : ℕ) → Option ℕ → (operand into : ℕ) → Code
  begun_first n v zero into = begun n v into
  begun_first n v (suc j) into = []

  abbrev pub placed : (Named → ℕ) → Ty → Option ℕ → (operand part into from : ℕ) → Code
  placed number_of t v j k into from =
      let u = slice_index_or (part_types s.adts t) k ty.Nothing in
      begun_first (number_of (OfRecord t)) v j into
      ++ (moved s.adts u (number_of (OfRecord u)) (in_slot s u from) (in_box s into (within s.adts t (k ∷ []))) ++ emptied (form_of u) from)

  -- ---- frames that are made: the operands that were put together go there

  -- Words up to the last that refers go by their type, and what is behind them as so many bytes: nothing else in the frame is touched.
  abbrev pub front_moved : (type front slot : ℕ) → Code
  front_moved n zero a = []
  front_moved n (suc w) a = inst op.Movmp (in_box s a 0) (middle.Imm (pos n)) (behind made_place linkage_bytes) ∷ []

  abbrev pub rest_moved : (front rest slot : ℕ) → Code
  rest_moved w zero a = []
  rest_moved w (suc r) a =
      sized (suc r) ++ (inst op.Movm (in_box s a w) (size_middle (suc r)) (behind made_place (linkage_bytes + w)) ∷ [])

  abbrev pub arguments : (Named → ℕ) → (told : ℕ → Ty) → Option ℕ → Code
  arguments number_of told None = []
  arguments number_of told (Some a) =
      let us = part_types s.adts (told a) in
      let front = front_of s.adts us in
      front_moved (number_of (OfFront us)) front a ++ rest_moved front ((row_of s.adts us).size - front) a

  -- A call's answer goes to the slot, or to its record.
  abbrev pub answer_to : Form → (into : ℕ) → Code
  answer_to Nowhere into = []
  answer_to AsNumber into = inst op.Lea (number s into) middle.None (behind made_place answer_place) ∷ []
  answer_to AsReference into = inst op.Lea (reference s into) middle.None (behind made_place answer_place) ∷ []
  answer_to Boxed into = inst op.Lea (in_box s into 0) middle.None (behind made_place answer_place) ∷ []

  -- ---- initialisers: behind the indices that are named the loop's number is the one behind what is found

  abbrev pub searched : List ℤ → (at here loop past : ℕ) → Code
  searched zs at here l past = compared_all zs at here past ++ (counted (number s l) ∷ [])

-- ---- what an instruction names, and its data

module _ (defs : List Def) (answer : Ty) (told : ℕ → Ty) where
  abbrev pub told_of : Option ℕ → List Named
  told_of None = []
  told_of (Some a) = OfFront (part_types defs (told a)) ∷ []

  abbrev pub named_by : Instr → List Named
  named_by (core.Give t o into from) = OfRecord t ∷ OfValue (item_of t) ∷ OfRecord (item_of t) ∷ []
  named_by (core.Place t v j k into from) = OfRecord t ∷ OfRecord (slice_index_or (part_types defs t) k ty.Nothing) ∷ []
  named_by (core.Gather t o into n) = OfRecord t ∷ []
  named_by (core.Pick t k into from) = OfRecord t ∷ OfRecord (told from) ∷ []
  named_by (core.Write t w ops part from) = OfRecord t ∷ []
  named_by (core.Cell t into item back) = OfValue t ∷ []
  named_by (core.Call t f into o) = OfRecord t ∷ told_of o
  named_by (core.Print ps into o) = PrintFrame ps ∷ told_of o
  named_by (core.Element t a z from) = OfRecord t ∷ []
  named_by (core.Other t a l from) = OfRecord t ∷ []
  named_by (core.Keep l from words) = OfTurn words ∷ OfRegion words ∷ []
  named_by (core.Take l from words n) = OfTurn words ∷ OfRegion words ∷ []
  named_by (core.Drop r k) = OfRecord (told r) ∷ []
  named_by (core.Return r) = OfRecord answer ∷ []
  named_by i = []

  abbrev pub data_of : Instr → List Datum
  data_of (core.Give t (tree.Literal c) into from) = constant_data t c
  data_of (core.Pick t k into from) = zero_data t
  data_of (core.Known (Num z) into) = Word z ∷ []
  data_of (core.Write t w ops part from) = zero_data t
  data_of (core.Print ps into from) = Text (format_text ps) ∷ []
  data_of (core.Element t array index from) = Word index ∷ []
  data_of (core.Next array loop named n) = map (λ z. Word z) (sorted named)
  data_of (core.Return None) = zero_data answer
  data_of i = []

-- ---- the chain of a loop: each record has the next one at 0, at 4 the last where there is another, and from 8 on a region of slots

abbrev pub nil_middle : Middle
nil_middle = middle.Mp (pos 4)

module _ (s : Scene) where
  abbrev pub spare : ℕ
  spare = spare_place s.adts s.variables

  abbrev pub region_at : (slot : ℕ) → isa.Operand
  region_at r = own (number_place s.adts s.variables r)

  abbrev pub branch_nil : isa.Operand → (pc : ℕ) → code_inst.Inst
  branch_nil a pc = inst op.Beqw a nil_middle (operand.Imm (pos pc))

  -- A region goes to a record, which comes last; what a new record has comes in its place. The record's type and the region's have these
  -- numbers.
  abbrev pub kept : (here loop from turn part : ℕ) → Code
  kept here l from n g =
      inst op.New (operand.Imm (pos n)) middle.None (own spare)
      ∷ inst op.Movmp (region_at from) (middle.Imm (pos g)) (behind spare 8)
      ∷ inst op.New (operand.Imm (pos n)) middle.None (reference s from)
      ∷ inst op.Movmp (in_box s from 8) (middle.Imm (pos g)) (region_at from)
      ∷ branch_nil (reference s l) (here + 14)
      ∷ branch_nil (in_box s l 4) (here + 11)
      ∷ inst op.Movp (in_box s l 4) middle.None (reference s from)
      ∷ inst op.Movp (own spare) middle.None (in_box s from 0)
      ∷ inst op.Movp (own spare) middle.None (in_box s l 4)
      ∷ let_go s from
      ∷ jump_to (here + 15)
      ∷ inst op.Movp (own spare) middle.None (in_box s l 0)
      ∷ inst op.Movp (own spare) middle.None (in_box s l 4)
      ∷ jump_to (here + 15)
      ∷ inst op.Movp (own spare) middle.None (reference s l)
      ∷ inst op.Movp nil_word middle.None (own spare)
      ∷ []

  -- The first record's region comes back, and the next record is the first.
  abbrev pub taken : (here loop from past part : ℕ) → Code
  taken here l from past g =
      branch_nil (reference s l) past
      ∷ inst op.Movp (reference s l) middle.None (own spare)
      ∷ inst op.Movmp (behind spare 8) (middle.Imm (pos g)) (region_at from)
      ∷ inst op.Movp (behind spare 0) middle.None (reference s l)
      ∷ branch_nil (reference s l) (here + 7)
      ∷ inst op.Beqw (behind spare 4) (reference_middle s l) (operand.Imm (pos (here + 7)))
      ∷ inst op.Movp (behind spare 4) middle.None (in_box s l 4)
      ∷ inst op.Movp nil_word middle.None (own spare)
      ∷ []

-- ---- the code of an instruction

module _ (c : Site) where
  abbrev pub s : Scene
  s = c.scene

  abbrev pub record_number : Ty → ℕ
  record_number t = c.type_number (OfRecord t)

  abbrev pub index_slot : Way → List ℕ → ℕ
  index_slot w rs = slice_index_or rs (count_of w.root) 0

  -- Of a character its string stands at the place, and its index behind the place's operands.
  abbrev pub read : Bool → Ty → Way → (slots : List ℕ) → (into : ℕ) → Code
  read true t w rs into =
      inst op.Indc (at_place s w (c.told (first_slot rs)) rs) (number_middle s (index_slot w rs)) (number s into) ∷ []
  read false t w rs into =
      prepared (form_of t) (record_number t) (reference s into)
      ++ moved s.adts t (record_number t) (at_place s w (c.told (first_slot rs)) rs) (in_slot s t into)

  abbrev pub put : Ty → isa.Operand → (part : List ℕ) → (from : ℕ) → Code
  put ty.Nothing d part from = []
  put t d part from = moved s.adts t (record_number t) (part_in_slot s (c.told from) part from) d

  -- What was declared without a value gets zero.
  abbrev pub put_or_zero : (source : Ty) → Ty → isa.Operand → (part : List ℕ) → (from : ℕ) → Code
  put_or_zero ty.Nothing t d part from = zeroed s.adts t (record_number t) c.at d
  put_or_zero u t d part from = put t d part from

  abbrev pub written : Bool → Ty → Way → (slots : List ℕ) → (part : List ℕ) → (from : ℕ) → Code
  written true t w rs part from =
      inst op.Insc (part_in_slot s (c.told from) part from) (number_middle s (index_slot w rs))
      (at_place s w (c.told (first_slot rs)) rs) ∷ []
  written false t w rs part from = put_or_zero (c.told from) t (at_place s w (c.told (first_slot rs)) rs) part from

  abbrev pub given : Ty → Work → (into : ℕ) → (slots : List ℕ) → Code
  given t (tree.Literal x) into rs = literal s t x into c.at (record_number t)
  given t tree.Nil into rs = let_go s into ∷ []
  given t (tree.Read w) into rs = looked_up s w.root rs ++ read w.character t w rs into
  given t (tree.Operate o) into rs =
      operated s c.here t o rs into (record_number t) (c.type_number (OfValue (item_of t))) (record_number (item_of t))
  given t tree.NewChannel into rs =
      inst (channel_op (has_references s.adts (item_of t)) (item_of t)) (channel_source (item_of t)) middle.None (reference s into) ∷ []
    where
      by_type_or_size : Ty → isa.Operand
      by_type_or_size t = operand.Imm (pos (if has_references s.adts t then c.type_number (OfValue t) else (room_for s.adts t).size))

      channel_source : Ty → isa.Operand
      channel_source (ty.Tuple ts) = by_type_or_size (ty.Tuple ts)
      channel_source (ty.Adt n) = by_type_or_size (ty.Adt n)
      channel_source ty.Nothing = operand.Imm (pos 0)
      channel_source t = operand.None
  given t o into rs = []

  abbrev pub behind_or_nil : Option ℕ → isa.Operand
  behind_or_nil None = nil_word
  behind_or_nil (Some r) = reference s r

  -- Where the left operand doesn't decide, what was decided is 0; else it is 1, and the value is 1 of `||` and 0 of `&&`.
  abbrev pub decision_is : Option ℕ → ℤ → Code
  decision_is None z = []
  decision_is (Some d) z = inst op.Movw (operand.Imm z) middle.None (number s d) ∷ []

  abbrev pub skipped : Connective → (into : ℕ) → Option ℕ → (from past : ℕ) → Code
  skipped k into d from past =
      let decided_code = decision_is d (pos 1) ++ (inst op.Movw (operand.Imm (value k)) middle.None (number s into) ∷ jump_to past ∷ []) in
      inst (opposite k) (number s from) (middle.Imm (pos 0)) (operand.Imm (pos (c.here + suc (length decided_code)))) ∷ decided_code
      ++ decision_is d (pos 0)
    where
      value : Connective → ℤ
      value connective.And = pos 0
      value connective.Or = pos 1

      opposite : Connective → Op
      opposite connective.And = op.Bnew
      opposite connective.Or = op.Beqw

  abbrev pub called : Ty → (function into : ℕ) → (operands : Option ℕ) → Code
  called t f into o =
      inst op.Frame (operand.Imm (pos (c.frame_number f))) middle.None (own made_place)
      ∷ arguments s c.type_number c.told o
      ++ (prepared (form_of t) (record_number t) (reference s into)
      ++ (answer_to s (form_of t) into ++ (inst op.Call (own made_place) middle.None (operand.Imm (pos (c.entries f))) ∷ [])))

  -- Sys is loaded for each print, to where the answer's slot refers, and let go behind it; print is its function 16. The format is the
  -- first argument, in place of the empty text that the operands have in front.
  abbrev pub printed_code : List Piece → (into : ℕ) → (operands : Option ℕ) → Code
  printed_code ps into o =
      inst op.Load path_word (middle.Imm (pos 0)) (reference s into)
      ∷ inst op.Frame (operand.Imm (pos (c.type_number (PrintFrame ps)))) middle.None (own made_place)
      ∷ arguments s c.type_number c.told o
      ++ (inst op.Movp (operand.Mp (pos c.at)) middle.None (behind made_place linkage_bytes)
      ∷ inst op.Lea (number s into) middle.None (behind made_place answer_place)
      ∷ inst op.Mcall (own made_place) (middle.Imm (pos 16)) (reference s into) ∷ let_go s into ∷ [])

  abbrev pub element_of : (array : ℕ) → (index : isa.Operand) → code_inst.Inst
  element_of a z = inst op.Indx (reference s a) (of_own element_place) z

  abbrev pub offset_at : List ℕ → ℕ → ℕ
  offset_at os k = slice_index_or os k 0

  -- A slot's box is another one, in which something has changed: what a box has never changes.
  abbrev pub changed_box : Ty → (slot : ℕ) → (change : Code) → Code
  changed_box t r change =
      inst op.New (operand.Imm (pos (record_number t))) middle.None (own (spare s))
      ∷ moved s.adts t (record_number t) (in_box s r 0) (behind (spare s) 0) ++ (change
      ++ (inst op.Movp (own (spare s)) middle.None (reference s r) ∷ inst op.Movp nil_word middle.None (own (spare s)) ∷ []))

  -- A reference of a slot's value goes, by its number.
  abbrev pub let_one_go : Form → Ty → (slot number : ℕ) → Code
  let_one_go AsReference t r k = let_go s r ∷ []
  let_one_go Boxed t r k = changed_box t r (inst op.Movp nil_word middle.None (behind (spare s) (offset_at (names_at s.adts t) k)) ∷ [])
  let_one_go f t r k = []

  abbrev pub returned : Option ℕ → Code
  returned None = zeroed s.adts c.answer (record_number c.answer) c.at (behind answer_place 0)
  returned (Some r) = moved s.adts c.answer (record_number c.answer) (in_slot s c.answer r) (behind answer_place 0)

  -- where there is nothing to do, the next instruction comes
  abbrev pub at_least : Code → Code
  at_least [] = jump_to (c.past 0) ∷ []
  at_least (i ∷ is) = i ∷ is

  abbrev pub code_of : Instr → Code
  code_of (core.Give t o into from) = given t o into from
  code_of (core.Place t v j k into from) = at_least (placed s c.type_number t v j k into from)
  code_of (core.Gather t o into zero) = begun s (record_number t) (variant_made s.adts o) into
  code_of (core.Gather t o into (suc n)) = at_least []
  code_of (core.Pick t k into from) =
      prepared (form_of t) (record_number t) (reference s into)
      ++ (moved s.adts t (record_number t) (part_in_slot s (c.told from) (k ∷ []) from) (in_slot s t into)
      ++ changed_box (c.told from) from
      (zeroed s.adts t (record_number t) c.at (behind (spare s) (within s.adts (c.told from) (k ∷ [])))))
  code_of (core.Known v into) = known s v into c.at
  code_of (core.Write t w operands part from) = looked_up s w.root operands ++ written w.character t w operands part from
  code_of (core.CopyInto array start from) = inst op.Slicela (reference s from) (number_middle s start) (reference s array) ∷ []
  code_of (core.Cell t into item back) =
      inst op.Movp (behind_or_nil back) middle.None (reference s into)
      ∷ element_sized s.adts t
      ++ (inst (cons_op (has_references s.adts t) t) (in_slot s t item) (element_middle s.adts t (c.type_number (OfValue t)))
      (reference s into) ∷ [])
  code_of (core.Call t f into o) = called t f into o
  code_of (core.Print ps into o) = printed_code ps into o
  code_of (core.Skip k into decision from n) = skipped k into decision from (c.past n)
  code_of (core.Truth into from) = decided c.here op.Bnew (number s from) (middle.Imm (pos 0)) (number s into)
  code_of (core.Element t array index from) =
      element_of array (number_source (fits_source index) index c.at)
      ∷ moved s.adts t (record_number t) (in_slot s t from) (behind element_place 0)
  code_of (core.Start loop) = inst op.Movw (operand.Imm (pos 0)) middle.None (number s loop) ∷ let_go s loop ∷ []
  code_of (core.Next array loop named n) =
      inst op.Movw (number s loop) middle.None (own element_place)
      ∷ inst op.Lena (reference s array) middle.None (own passing_place)
      ∷ passed_behind (c.past n) ∷ searched s (sorted named) c.at (c.here + 3) loop (c.past n)
  code_of (core.Other t array loop from) =
      inst op.Subw (operand.Imm (pos 1)) (number_middle s loop) (own passing_place)
      ∷ element_of array (own passing_place) ∷ moved s.adts t (record_number t) (in_slot s t from) (behind element_place 0)
  code_of (core.Keep loop from words) = kept s c.here loop from (c.type_number (OfTurn words)) (c.type_number (OfRegion words))
  code_of (core.Take loop from words n) = taken s c.here loop from (c.past n) (c.type_number (OfRegion words))
  code_of (core.Drop r k) = let_one_go (form_of (c.told r)) (c.told r) r k
  code_of (core.Mirror d n) = inst op.Bnew (number s d) (middle.Imm (pos 0)) (operand.Imm (pos (c.past n))) ∷ []
  code_of (core.Unless r n) = inst op.Beqw (number s r) (middle.Imm (pos 0)) (operand.Imm (pos (c.past n))) ∷ []
  code_of (core.Jump n) = jump_to (c.past n) ∷ []
  code_of (core.Back n) = jump_to (c.back n) ∷ []
  code_of (core.Return r) = returned r ++ (inst op.Ret operand.None middle.None operand.None ∷ [])
