-- Constants that are bigs, and what is calculated from bigs.
use Rattle.std.proofs.Common.{◌≡◌, ◌≢◌, ℕ, ℤ, pos, List, [], ◌∷◌, Some, Result, Ok, Err, IfOk, refl, sym, ap, ◌∙◌, subst, arith, inl}
use Rattle.std.specs.Prelude.{slice_get}
use Rattle.limbo_types.specs.Types as ty
use Rattle.limbo_types.specs.Types.{Ty}
use Rattle.limbo_values.specs.declared.number.Kind.TheVariants.{Big}
use Rattle.limbo_values.specs.declared.operator.Operator.{Operator}
use Rattle.limbo_values.specs.declared.operator.Operator.TheVariants as operator
use Rattle.limbo_values.specs.declared.raised.Raised.{Raised}
use Rattle.limbo_values.specs.Numbers.{InRange}
use Rattle.limbo_values.specs.Operators.{applied, text_of}
use Rattle.limbo_values.proofs.Ranges.{within, applied_in}
use Rattle.limbo_typed.specs.Typed as typed
use Rattle.limbo_typed.specs.declared.operation.Operation.TheVariants.{Arithmetic}
use Rattle.limbo_typed.specs.declared.stmt.Constant.TheVariants as constant
use Rattle.limbo_meaning.specs.Exceptions.{with_text}
use Rattle.limbo_meaning.specs.Operations.{gives_number}
use Rattle.limbo_meaning.specs.Evaluation.{unless_raised, leaves}
use Rattle.limbo_meaning.specs.Process.{Shared}
use Rattle.limbo_meaning.specs.Trees.{Work, Literal, Operate}
use Rattle.limbo_meaning.specs.Values.{Num, number_of}
use Rattle.system_model.specs.Limits.{frames_limit}
use Rattle.system_model.specs.Ending.{Broken}
use Rattle.core_code.specs.Code.{Instr, Give}
use Rattle.core_code.specs.Machine as code
use Rattle.core_code.specs.Slots as core
use Rattle.core_code.specs.Slots.{Holds}
use Rattle.core_typing.specs.Needs.{AreThese}
use Rattle.dis_isa.specs.declared.inst.Operand.TheVariants as operand
use Rattle.dis_isa.specs.declared.inst.Middle.TheVariants as middle
use Rattle.dis_isa.specs.declared.op.Op.TheVariants as op
use Rattle.dis_isa.specs.declared.inst.Inst.{Inst}
use Rattle.dis_meaning.specs.Words.{Word, Found}
use Rattle.dis_meaning.specs.Numbers.{Calculates, number_row, number_at}
use Rattle.dis_meaning.specs.Process.{Process}
use Rattle.dis_memory.specs.Blocks.{World}
use Rattle.dis_memory.specs.Places.{source_of, middle_of}
use Rattle.value_words.specs.Facts.{Facts}
use Rattle.value_frames.specs.Frames.{reference_place}
use Rattle.value_moves.specs.Operands.{inst, behind}
use Rattle.value_moves.proofs.Leading.{spots_lead}
use Rattle.value_code.specs.Objects.{object_of, of_function, placed}
use Rattle.value_code.specs.Works.{arithmetic_op}
use Rattle.number_effects.proofs.Reading.{operands_are_read}
use Rattle.number_effects.proofs.Numbers.{numbers_work}
use Rattle.number_effects.proofs.Stepping.{steps_obey}
use Rattle.value_follows.specs.Stands.{types_of}
use Rattle.value_follows.specs.Sides.{sides, program, HoldTheSame}
use Rattle.value_follows.specs.Rows.{Base, InstrGoes, RowStands}
use Rattle.value_follows.proofs.Standing.{finds, code_here, instance_here}
use Rattle.value_follows.proofs.Slots.{number_there}
use Rattle.value_follows.proofs.Several.{Next}
use Rattle.value_follows.proofs.Arithmetic.{two_slots}
use Rattle.rows_boxes.proofs.Differing.{slots_differ}
use Rattle.rows_boxes.specs.Differing.{DiffersFrom}
use Rattle.rows_boxes.specs.Rows.{BigLiteralsGo, BigArithmeticGoes}
use Rattle.rows_boxes.proofs.Boxing.{Boxing, box_place, only_one}
use Rattle.rows_boxes.proofs.Starting.{new_words}
use Rattle.rows_boxes.proofs.Filling.{reaches_on, ends_alike}
use Rattle.rows_boxes.proofs.Giving.{starts}
use Rattle.rows_boxes.proofs.Reading.{BigIs, big_is, big_source}
use Rattle.rows_boxes.proofs.Bigs.{big_laid, old_big, box_leads}
use Rattle.rows_boxes.proofs.Numbers.{finds_on, uses_on, ends_big, goes_big}

same_value : (y z : ℤ) → Num y ≡ Num z → y ≡ z
same_value y z e = cc

constants_go : (m : typed.Module) (b : Base m) (z : ℤ) (into : ℕ) (from : List ℕ) → InstrGoes m (Give ty.Big (Literal (constant.Number z)) into from)
constants_go m b z into from k i x p q ready here =
    let o = Literal (constant.Number z) in (
      1,
      starts m b ty.Big o into from 0 (λ f known found. big_laid m.adts) (λ c. refl) (λ f pc. omega arith) k i x p q ready here
          (λ number f there in_code row box r now w y s hold worlds.
          let inner = new_words m.adts ty.Big in
          let it = inst op.Movl (operand.Mp (pos row.at)) middle.None (behind (box_place m number f ty.Big into) 0) in
          let range : InRange Big z = (finds_on m b ty.Big o into from number f 1 box inner i p r now y s here).2.0 in
          let instance = instance_here m b now i w y p r (into ∷ []) s.stands.is hold worlds.0 in
          let constant = instance.2 (placed m row.at ty.Big (Num z)) (row.stand (placed m row.at ty.Big (Num z)) (inl refl)) in
          let n = number_there m.adts now instance.0 row.at ty.Big (Num z) Big refl constant.stands in
          let source : source_of Big y r (operand.Mp (pos row.at)) ≡ Found z =
          operands_are_read.source_number y r (operand.Mp (pos row.at)) instance.0 row.at Big (spots_lead.of_module y r 0 instance.0 row.at instance.1).0
          ∙ (n.found ∙ ap (λ (a : ℤ). Found a) (same_value n.number z (sym n.is)))
          in
          let old = old_big m b number f into 1 box inner i p r now w y s in
          ends_big m b o into from number f there i p here in_code row 1 box inner r now w y s hold worlds it refl z range
          (numbers_work.moves frames_limit (object_of m) y r it Big z inner 0 (box_leads m b number f into 1 box inner i p r now w y s) old.0 refl source old.1)
          refl
          (ap (code.next frames_limit (program m) w p) here
          ∙ ap (λ (a : ℤ). code.goes_on w p (core.put p.frame.slots into (Holds (Num a)))) (within Big z range))),
    )

pub big_literals_go : BigLiteralsGo
big_literals_go m b t z into from e k i x p q ready here =
    constants_go m b z into from k i x p q ready
    (here ∙ ap (λ (u : Ty). Some (Give u (Literal (constant.Number z)) into from)) e)

-- ---- what is calculated

op_row : (o : Operator) → number_row (arithmetic_op o Big) ≡ Some (Calculates Big o)
op_row operator.Add = refl
op_row operator.Subtract = refl
op_row operator.Multiply = refl
op_row operator.Divide = refl
op_row operator.Remainder = refl
op_row operator.And = refl
op_row operator.Xor = refl
op_row operator.Or = refl

module _ (m : typed.Module) (b : Base m) (o : Operator) (into a c : ℕ) (left_apart : into ≢ a) (right_apart : into ≢ c) where
  abbrev work : Work
  work = Operate (Arithmetic o Big)

  abbrev from : List ℕ
  from = a ∷ c ∷ []

  abbrev instr : Instr
  instr = Give ty.Big work into from

  module _ (i : ℕ) (p : code.Process) (here : slice_get p.frame.code p.frame.pc ≡ Some instr) (number : ℕ) (f : typed.Function)
      (there : slice_get m.functions number ≡ Some f) (in_code : slice_get (of_function m f).code p.frame.pc ≡ Some instr)
      (row : RowStands m number f p.frame.pc instr) where
    abbrev place : ℕ → ℕ
    place r = reference_place m.adts (types_of m f) r

    -- what stands in the slots that are read
    module _ (j box : ℕ) (inner : List Word) (q : Process) (k : Facts) (x : World) (s : Boxing m number f ty.Big into j box inner k i x p q) where
      these : AreThese s.stands.is.known from (ty.Big ∷ ty.Big ∷ [])
      these =
          let found = finds_on m b ty.Big work into from number f j box inner i p q k x s here in
          subst (AreThese s.stands.is.known from) found.2.0.0 found.1

      left : BigIs m k i x (into ∷ []) p.frame q.frame s.stands.is f s.function_is a
      left =
          big_is m k i x (into ∷ []) p.frame q.frame s.stands.is f s.function_is a
          (uses_on m b ty.Big work into from number f j box inner i p q k x s here).1.0 (λ h. left_apart (only_one into a h)) these.0

      right : BigIs m k i x (into ∷ []) p.frame q.frame s.stands.is f s.function_is c
      right =
          big_is m k i x (into ∷ []) p.frame q.frame s.stands.is f s.function_is c
          (uses_on m b ty.Big work into from number f j box inner i p q k x s here).1.1.0 (λ h. right_apart (only_one into c h)) these.1.0

    -- the last instruction
    module _ (box : ℕ) (inner : List Word) (q : Process) (k : Facts) (w : Shared) (x : World) (s : Boxing m number f ty.Big into 2 box inner k i x p q)
        (hold : HoldTheSame m k i x p q) (worlds : (sides m).worlds k w x) (y : ℤ) (left_is : core.slot p.frame.slots a ≡ Holds (Num y))
        (read : number_at Big inner (pos 0) ≡ Found y) where
      abbrev second : BigIs m k i x (into ∷ []) p.frame q.frame s.stands.is f s.function_is c
      second = right 2 box inner q k x s

      abbrev last : Inst
      last = inst (arithmetic_op o Big) (behind (place c) 0) middle.None (behind (place into) 0)

      -- what the other comes to, by what is calculated
      abbrev comes : Result ℤ Raised → code.Does
      comes r = code.gives frames_limit (program m) w p into
          (unless_raised (gives_number m.adts (code.memory frames_limit (program m) w p) (with_text r)) (leaves m.adts (code.memory frames_limit (program m) w p) ty.Big (Arithmetic o Big)))

      does : (r : Result ℤ Raised) → applied Big o y second.number ≡ r → (sides m).program.step w p ≡ comes r
      does r e =
          ap (code.next frames_limit (program m) w p) here
          ∙ ap (λ (v : core.Slot). comes (applied Big o (number_of (core.value_of v)) (number_of (core.value_of (core.slot p.frame.slots c))))) left_is
          ∙ ap (λ (v : core.Slot). comes (applied Big o y (number_of (core.value_of v)))) second.holds
          ∙ ap comes e

      from_right : source_of Big x q last.src ≡ Found second.number
      from_right = big_source m k i x p q w hold worlds (into ∷ []) s.stands.is f s.function_is c second

      from_left : middle_of Big x q last.middle last.dst ≡ Found y
      from_left =
          operands_are_read.no_middle x q Big last.dst
          ∙ (operands_are_read.source_number x q last.dst inner 0 Big (box_leads m b number f into 2 box inner i p q k w x s) ∙ read)

      go : (r : Result ℤ Raised) → applied Big o y second.number ≡ r → Next m b i p 0 k w x q
      go (Ok z) e =
          let range : InRange Big z = subst (λ r. IfOk r (InRange Big)) e (applied_in Big o y second.number) in
          ends_big m b work into from number f there i p here in_code row 2 box inner q k w x s hold worlds last refl z range
          (numbers_work.calculates frames_limit (object_of m) x q last Big o second.number y inner 0
          (box_leads m b number f into 2 box inner i p q k w x s) y z (op_row o) from_right from_left read e)
          refl
          (does (Ok z) e ∙ ap (λ (v : ℤ). code.goes_on w p (core.put p.frame.slots into (Holds (Num v)))) (within Big z range))
      go (Err raised) e =
          ends_alike m b number f ty.Big into 2 box inner i p q k w x s hold worlds 0 (Broken (text_of raised))
          (steps_obey.raises frames_limit (object_of m ∷ []) x q (object_of m) last (text_of raised)
          (reaches_on m b number f ty.Big into 2 box inner i p q k w x s hold worlds instr row last refl)
          (numbers_work.calculates_raised frames_limit (object_of m) x q last Big o second.number y inner 0
          (box_leads m b number f into 2 box inner i p q k w x s) y raised (op_row o) from_right from_left read e))
          (does (Err raised) e)

      pub last_goes : Next m b i p 0 k w x q
      last_goes = go (applied Big o y second.number) refl

    -- the left operand comes first
    pub operands_go : (box : ℕ) (q : Process) (k : Facts) (w : Shared) (x : World) → Boxing m number f ty.Big into 1 box (new_words m.adts ty.Big) k i x p q
        → HoldTheSame m k i x p q → (sides m).worlds k w x → Next m b i p 1 k w x q
    operands_go box q k w x s hold worlds =
        let inner = new_words m.adts ty.Big in
        let first = left 1 box inner q k x s in
        let it = inst op.Movl (behind (place a) 0) middle.None (behind (place into) 0) in
        let old = old_big m b number f into 1 box inner i p q k w x s in
        goes_big m b work into from number f there i p here in_code row 1 box inner q k w x s hold worlds it refl first.number first.range
        (numbers_work.moves frames_limit (object_of m) x q it Big first.number inner 0 (box_leads m b number f into 1 box inner i p q k w x s) old.0 refl
        (big_source m k i x p q w hold worlds (into ∷ []) s.stands.is f s.function_is a first) old.1)
        0 (omega arith)
        (λ now v y then h e read. last_goes box _ _ now v y then h e first.number first.holds read)

calculated_go : (m : typed.Module) (b : Base m) (o : Operator) (into a c : ℕ) → into ≢ a → into ≢ c
    → InstrGoes m (Give ty.Big (Operate (Arithmetic o Big)) into (a ∷ c ∷ []))
calculated_go m b o into a c l r k i x p q ready here = (
  2,
  starts m b ty.Big (Operate (Arithmetic o Big)) into (a ∷ c ∷ []) 1 (λ f known found. big_laid m.adts) (λ c. refl) (λ f pc. omega arith) k i x p q ready here
      (λ number f there in_code row box t now w y s hold worlds.
      operands_go m b o into a c l r i p here number f there in_code row box t now w y s hold worlds),
)

pub big_arithmetic_goes : BigArithmeticGoes
big_arithmetic_goes m b t o into from k i x p q ready here =
    let it = Give t (Operate (Arithmetic o Big)) into from in
    let r = ready.0 in
    let known = r.stands.is.known in
    let found = finds m r.stands.is.function p.frame.pc known it r.stands.goes (code_here m k i x p q r it here) in
    let slots = two_slots known from ty.Big ty.Big (subst (AreThese known from) found.2.0.0 found.1) in
    let differ = subst (DiffersFrom into) slots.2 (slots_differ m r.stands.is.function p.frame.pc it (code_here m k i x p q r it here)) in
    calculated_go m b o into slots.0 slots.1 differ.0 differ.1.0 k i x p q ready
    (here ∙ ap (λ (u : Ty). Some (Give u (Operate (Arithmetic o Big)) into from)) found.2.0.1
    ∙ ap (λ (rs : List ℕ). Some (Give ty.Big (Operate (Arithmetic o Big)) into rs)) slots.2)
