-- Bigs that are shifted, altered, and made of other numbers.
use Rattle.std.proofs.Common.{◌≡◌, ◌≢◌, ℕ, ℤ, pos, negsuc, ◌<◌, ◌+ℤ◌, ◌-ℤ◌, List, [], ◌∷◌, length, Some, Result, Ok, refl, sym, ap, ◌∙◌, subst, arith}
use Rattle.std.specs.Prelude.{slice_get, neg_ℤ}
use Rattle.std.proofs.lemmas.Int.{ints}
use Rattle.limbo_types.specs.Types as ty
use Rattle.limbo_types.specs.Types.{Ty}
use Rattle.limbo_values.specs.declared.number.Kind.{Kind}
use Rattle.limbo_values.specs.declared.number.Kind.TheVariants.{Byte, Int, Big}
use Rattle.limbo_values.specs.declared.operator.Operator.{Operator}
use Rattle.limbo_values.specs.declared.operator.Operator.TheVariants as operator
use Rattle.limbo_values.specs.declared.operator.Shift.{Shift}
use Rattle.limbo_values.specs.declared.operator.Shift.TheVariants as shift
use Rattle.limbo_values.specs.declared.operator.Unary.{Unary}
use Rattle.limbo_values.specs.declared.operator.Unary.TheVariants as unary
use Rattle.limbo_values.specs.declared.raised.Raised.{Raised}
use Rattle.limbo_values.specs.Numbers.{InRange, wrapped}
use Rattle.limbo_values.specs.Operators.{applied, shifted, altered}
use Rattle.limbo_values.proofs.Ranges.{within, always, shifted_in}
use Rattle.limbo_typed.specs.Typed as typed
use Rattle.limbo_typed.specs.Fitting.{of_kind}
use Rattle.limbo_typed.specs.declared.operation.Operation.TheVariants as operation
use Rattle.limbo_meaning.specs.Process.{Shared}
use Rattle.limbo_meaning.specs.Trees.{Work, Operate}
use Rattle.limbo_meaning.specs.Values.{Num, number_of, fitted}
use Rattle.system_model.specs.Limits.{frames_limit}
use Rattle.core_code.specs.Code.{Instr, Give}
use Rattle.core_code.specs.Machine as code
use Rattle.core_code.specs.Slots as core
use Rattle.core_code.specs.Slots.{Slot, Holds}
use Rattle.core_typing.specs.Needs.{AreThese, IsA}
use Rattle.dis_isa.specs.declared.inst.Inst.{Inst}
use Rattle.dis_isa.specs.declared.inst.Operand as isa
use Rattle.dis_isa.specs.declared.inst.Middle.TheVariants as middle
use Rattle.dis_isa.specs.declared.op.Op.{Op}
use Rattle.dis_isa.specs.declared.op.Op.TheVariants as op
use Rattle.dis_meaning.specs.Words.{Word, Found}
use Rattle.dis_meaning.specs.Numbers.{Calculates, Shifts, number_row, number_at}
use Rattle.dis_meaning.specs.Process.{Process}
use Rattle.dis_memory.specs.Blocks.{World}
use Rattle.dis_memory.specs.Step.{obey}
use Rattle.value_words.specs.Facts.{Facts}
use Rattle.value_frames.specs.Frames.{AsNumber, form_of, number_place, reference_place, passing_place}
use Rattle.value_moves.specs.Operands.{inst, own, behind}
use Rattle.value_moves.proofs.Leading.{spots_lead}
use Rattle.value_code.specs.Objects.{object_of, of_function}
use Rattle.value_code.specs.Works.{shift_op, altered as altering}
use Rattle.number_effects.specs.Giving.{StoresNumber}
use Rattle.number_effects.proofs.Reading.{operands_are_read}
use Rattle.number_effects.proofs.Numbers.{numbers_work}
use Rattle.value_follows.specs.Stands.{types_of}
use Rattle.value_follows.specs.Sides.{sides, program, HoldTheSame}
use Rattle.value_follows.specs.Rows.{Base, InstrGoes, RowStands}
use Rattle.value_follows.proofs.Standing.{finds, code_here}
use Rattle.value_follows.proofs.Several.{Next}
use Rattle.value_follows.proofs.Arithmetic.{two_slots}
use Rattle.value_follows.proofs.Comparing.{one_slot}
use Rattle.rows_boxes.proofs.Differing.{slots_differ}
use Rattle.rows_boxes.specs.Differing.{DiffersFrom}
use Rattle.rows_boxes.specs.Rows.{BigShiftsGo, BigAltersGo, BigConvertsGo}
use Rattle.rows_boxes.proofs.Boxing.{Boxing, box_place, only_one}
use Rattle.rows_boxes.proofs.Starting.{new_words}
use Rattle.rows_boxes.proofs.Giving.{starts}
use Rattle.rows_boxes.proofs.Reading.{BigIs, big_is, big_source, NumberOn, number_on}
use Rattle.rows_boxes.proofs.Bigs.{big_laid, old_big, box_leads}
use Rattle.rows_boxes.proofs.Numbers.{finds_on, uses_on, ends_big, goes_big, passes_int}
use Rattle.rows_boxes.proofs.Passing.{passing_leads, old_int}

-- ---- shifts

op_row : (h : Shift) → number_row (shift_op h Big) ≡ Some (Shifts Big h)
op_row shift.Left = refl
op_row shift.Right = refl

module _ (m : typed.Module) (b : Base m) (h : Shift) (into a c : ℕ) (left_apart : into ≢ a) (right_apart : into ≢ c) where
  abbrev work : Work
  work = Operate (operation.Shift h Big)

  abbrev from : List ℕ
  from = a ∷ c ∷ []

  abbrev instr : Instr
  instr = Give ty.Big work into from

  module _ (i : ℕ) (p : code.Process) (here : slice_get p.frame.code p.frame.pc ≡ Some instr) (number : ℕ) (f : typed.Function)
      (there : slice_get m.functions number ≡ Some f) (in_code : slice_get (of_function m f).code p.frame.pc ≡ Some instr)
      (row : RowStands m number f p.frame.pc instr) where
    abbrev place : ℕ → ℕ
    place r = reference_place m.adts (types_of m f) r

    abbrev count_place : ℕ
    count_place = number_place m.adts (types_of m f) c

    module _ (j box : ℕ) (inner : List Word) (q : Process) (k : Facts) (x : World) (s : Boxing m number f ty.Big into j box inner k i x p q) where
      these : AreThese s.stands.is.known from (ty.Big ∷ ty.Int ∷ [])
      these =
          let found = finds_on m b ty.Big work into from number f j box inner i p q k x s here in
          subst (AreThese s.stands.is.known from) found.2.0.0 found.1

      left : BigIs m k i x (into ∷ []) p.frame q.frame s.stands.is f s.function_is a
      left =
          big_is m k i x (into ∷ []) p.frame q.frame s.stands.is f s.function_is a
          (uses_on m b ty.Big work into from number f j box inner i p q k x s here).1.0 (λ h. left_apart (only_one into a h)) these.0

      right : NumberOn m k i x (into ∷ []) p.frame q.frame s.stands.is f s.function_is Int c
      right =
          number_on m k i x (into ∷ []) p.frame q.frame s.stands.is f s.function_is Int c refl
          (uses_on m b ty.Big work into from number f j box inner i p q k x s here).1.1.0 (λ h. right_apart (only_one into c h)) these.1.0

    module _ (box : ℕ) (inner : List Word) (q : Process) (k : Facts) (w : Shared) (x : World) (s : Boxing m number f ty.Big into 2 box inner k i x p q)
        (hold : HoldTheSame m k i x p q) (worlds : (sides m).worlds k w x) (y : ℤ) (range : InRange Big y) (left_is : core.slot p.frame.slots a ≡ Holds (Num y))
        (read : number_at Big inner (pos 0) ≡ Found y) where
      last_goes : Next m b i p 0 k w x q
      last_goes =
          let count = right 2 box inner q k x s in
          let it = inst (shift_op h Big) (own count_place) middle.None (behind (place into) 0) in
          let d = box_leads m b number f into 2 box inner i p q k w x s in
          let z = shifted Big h y count.number in
          let in_range : InRange Big z = shifted_in Big h y count.number range in
          ends_big m b work into from number f there i p here in_code row 2 box inner q k w x s hold worlds it refl z in_range
          (numbers_work.shifts frames_limit (object_of m) x q it Big h count.number y inner 0 d y (op_row h)
          (operands_are_read.source_number x q (own count_place) q.frame.words count_place Int (spots_lead.own x q count_place).0 ∙ count.found)
          (operands_are_read.no_middle x q Big it.dst ∙ (operands_are_read.source_number x q it.dst inner 0 Big d ∙ read))
          read)
          refl
          (ap (code.next frames_limit (program m) w p) here
          ∙ ap (λ (v : Slot). code.goes_on w p (core.put p.frame.slots into
          (Holds (fitted m.adts ty.Big (Num (shifted Big h (number_of (core.value_of v)) (number_of (core.value_of (core.slot p.frame.slots c))))))))) left_is
          ∙ ap (λ (v : Slot). code.goes_on w p (core.put p.frame.slots into
          (Holds (fitted m.adts ty.Big (Num (shifted Big h y (number_of (core.value_of v)))))))) count.holds
          ∙ ap (λ (v : ℤ). code.goes_on w p (core.put p.frame.slots into (Holds (Num v)))) (within Big z in_range))

    operands_go : (box : ℕ) (q : Process) (k : Facts) (w : Shared) (x : World) → Boxing m number f ty.Big into 1 box (new_words m.adts ty.Big) k i x p q
        → HoldTheSame m k i x p q → (sides m).worlds k w x → Next m b i p 1 k w x q
    operands_go box q k w x s hold worlds =
        let inner = new_words m.adts ty.Big in
        let first = left 1 box inner q k x s in
        let it = inst op.Movl (behind (place a) 0) middle.None (behind (place into) 0) in
        let old = old_big m b number f into 1 box inner i p q k w x s in
        goes_big m b work into from number f there i p here in_code row 1 box inner q k w x s hold worlds it refl first.number first.range
        (numbers_work.moves frames_limit (object_of m) x q it Big first.number inner 0 (box_leads m b number f into 1 box inner i p q k w x s) old.0 refl
        (big_source m k i x p q w hold worlds (into ∷ []) s.stands.is f s.function_is a first) old.1)
        0 (omega arith)
        (λ now v y then h e read. last_goes box _ _ now v y then h e first.number first.range first.holds read)

shifts_go : (m : typed.Module) (b : Base m) (h : Shift) (into a c : ℕ) → into ≢ a → into ≢ c
    → InstrGoes m (Give ty.Big (Operate (operation.Shift h Big)) into (a ∷ c ∷ []))
shifts_go m b h into a c l r k i x p q ready here = (
  2,
  starts m b ty.Big (Operate (operation.Shift h Big)) into (a ∷ c ∷ []) 1 (λ f known found. big_laid m.adts) (λ c. refl) (λ f pc. omega arith) k i x p q ready here
      (λ number f there in_code row box t now w y s hold worlds.
      operands_go m b h into a c l r i p here number f there in_code row box t now w y s hold worlds),
)

pub big_shifts_go : BigShiftsGo
big_shifts_go m b t h into from k i x p q ready here =
    let it = Give t (Operate (operation.Shift h Big)) into from in
    let r = ready.0 in
    let known = r.stands.is.known in
    let found = finds m r.stands.is.function p.frame.pc known it r.stands.goes (code_here m k i x p q r it here) in
    let slots = two_slots known from ty.Big ty.Int (subst (AreThese known from) found.2.0.0 found.1) in
    let differ = subst (DiffersFrom into) slots.2 (slots_differ m r.stands.is.function p.frame.pc it (code_here m k i x p q r it here)) in
    shifts_go m b h into slots.0 slots.1 differ.0 differ.1.0 k i x p q ready
    (here ∙ ap (λ (u : Ty). Some (Give u (Operate (operation.Shift h Big)) into from)) found.2.0.1
    ∙ ap (λ (rs : List ℕ). Some (Give ty.Big (Operate (operation.Shift h Big)) into rs)) slots.2)

-- ---- a big that is altered

module _ (m : typed.Module) (b : Base m) (into a : ℕ) (apart : into ≢ a) (i : ℕ) (p : code.Process) (number : ℕ) (f : typed.Function)
    (there : slice_get m.functions number ≡ Some f) (box : ℕ) (q : Process) (k : Facts) (w : Shared) (x : World)
    (s : Boxing m number f ty.Big into 1 box (new_words m.adts ty.Big) k i x p q) (hold : HoldTheSame m k i x p q)
    (worlds : (sides m).worlds k w x) (big : BigIs m k i x (into ∷ []) p.frame q.frame s.stands.is f s.function_is a) where
  abbrev inner : List Word
  inner = new_words m.adts ty.Big

  abbrev source : isa.Operand
  source = behind (reference_place m.adts (types_of m f) a) 0

  abbrev target : isa.Operand
  target = behind (reference_place m.adts (types_of m f) into) 0

  abbrev Stores : Inst → ℤ → Type 0
  Stores it z = StoresNumber (obey frames_limit (object_of m) x q it it.op) x q (box_leads m b number f into 1 box inner i p q k w x s).place Big inner 0 z

  moved : (o : Op) → o ≡ op.Movl → Stores (inst op.Movl source middle.None target) big.number
  moved o e =
      let old = old_big m b number f into 1 box inner i p q k w x s in
      numbers_work.moves frames_limit (object_of m) x q (inst op.Movl source middle.None target) Big big.number inner 0
      (box_leads m b number f into 1 box inner i p q k w x s) old.0 refl (big_source m k i x p q w hold worlds (into ∷ []) s.stands.is f s.function_is a big) old.1

  beside : (o : Op) (g : Operator) (n z : ℤ) → number_row o ≡ Some (Calculates Big g) → applied Big g n big.number ≡ Ok z
      → Stores (inst o source (middle.Imm n) target) z
  beside o g n z row e =
      let old = old_big m b number f into 1 box inner i p q k w x s in
      let it = inst o source (middle.Imm n) target in
      numbers_work.calculates frames_limit (object_of m) x q it Big g big.number n inner 0
      (box_leads m b number f into 1 box inner i p q k w x s) old.0 z row (big_source m k i x p q w hold worlds (into ∷ []) s.stands.is f s.function_is a big)
      (operands_are_read.given_middle x q Big n target ∙ operands_are_read.middle_given x q Big n) old.1 e

  comes_to : (y z : ℤ) → wrapped Big y ≡ wrapped Big z → ◌≡◌ {A = Result ℤ Raised} (Ok (wrapped Big y)) (Ok (wrapped Big z))
  comes_to y z e = ap (λ (v : ℤ). Ok v) e

  alters : (u : Unary) → Stores (altering (record { adts = m.adts; globals = []; variables = [] }) u Big source target) (altered Big u big.number)
  alters unary.Plus = moved op.Movl refl
  alters unary.Minus = beside op.Subl operator.Subtract (pos 0) _ refl (comes_to (pos 0 -ℤ big.number) (neg_ℤ big.number) (ap (wrapped Big) (omega (arith, ints))))
  alters unary.Complement = beside op.Subl operator.Subtract (negsuc 0) _ refl refl
  alters unary.Increment = beside op.Addl operator.Add (pos 1) _ refl (comes_to (pos 1 +ℤ big.number) (big.number +ℤ pos 1) (ap (wrapped Big) (omega (arith, ints))))
  alters unary.Decrement = beside op.Addl operator.Add (negsuc 0) _ refl (comes_to (negsuc 0 +ℤ big.number) (big.number -ℤ pos 1) (ap (wrapped Big) (omega (arith, ints))))

altered_in : (u : Unary) (y : ℤ) → InRange Big y → InRange Big (altered Big u y)
altered_in unary.Plus y r = r
altered_in unary.Minus y r = always Big (neg_ℤ y)
altered_in unary.Complement y r = always Big (negsuc 0 -ℤ y)
altered_in unary.Increment y r = always Big (y +ℤ pos 1)
altered_in unary.Decrement y r = always Big (y -ℤ pos 1)

alters_go : (m : typed.Module) (b : Base m) (u : Unary) (into a : ℕ) → into ≢ a → InstrGoes m (Give ty.Big (Operate (operation.Alter u Big)) into (a ∷ []))
alters_go m b u into a apart k i x p q ready here =
    let o = Operate (operation.Alter u Big) in
    let from = a ∷ [] in (
      1,
      starts m b ty.Big o into from 0 (λ f known found. big_laid m.adts) (λ c. refl) (λ f pc. omega arith) k i x p q ready here
          (λ number f there in_code row box r now w y s hold worlds.
          let found = finds_on m b ty.Big o into from number f 1 box (new_words m.adts ty.Big) i p r now y s here in
          let these = subst (AreThese s.stands.is.known from) found.2.0.0 found.1 in
          let big = big_is m now i y (into ∷ []) p.frame r.frame s.stands.is f s.function_is a
          (uses_on m b ty.Big o into from number f 1 box (new_words m.adts ty.Big) i p r now y s here).1.0 (λ h. apart (only_one into a h)) these.0 in
          ends_big m b o into from number f there i p here in_code row 1 box (new_words m.adts ty.Big) r now w y s hold worlds _ refl
          (altered Big u big.number) (altered_in u big.number big.range)
          (alters m b into a apart i p number f there box r now w y s hold worlds big u)
          refl
          (ap (code.next frames_limit (program m) w p) here
          ∙ ap (λ (v : Slot). code.goes_on w p (core.put p.frame.slots into
          (Holds (fitted m.adts ty.Big (Num (altered Big u (number_of (core.value_of v)))))))) big.holds
          ∙ ap (λ (v : ℤ). code.goes_on w p (core.put p.frame.slots into (Holds (Num v)))) (within Big (altered Big u big.number) (altered_in u big.number big.range)))),
    )

pub big_alters_go : BigAltersGo
big_alters_go m b t u into from k i x p q ready here =
    let it = Give t (Operate (operation.Alter u Big)) into from in
    let r = ready.0 in
    let known = r.stands.is.known in
    let found = finds m r.stands.is.function p.frame.pc known it r.stands.goes (code_here m k i x p q r it here) in
    let slot = one_slot known from ty.Big (subst (AreThese known from) found.2.0.0 found.1) in
    let differ = subst (DiffersFrom into) slot.1 (slots_differ m r.stands.is.function p.frame.pc it (code_here m k i x p q r it here)) in
    alters_go m b u into slot.0 differ.0 k i x p q ready
    (here ∙ ap (λ (v : Ty). Some (Give v (Operate (operation.Alter u Big)) into from)) found.2.0.1
    ∙ ap (λ (rs : List ℕ). Some (Give ty.Big (Operate (operation.Alter u Big)) into rs)) slot.1)

-- ---- a number that becomes a big

module _ (m : typed.Module) (b : Base m) (j : Kind) (into a : ℕ) (apart : into ≢ a) (i : ℕ) (p : code.Process)
    (here : slice_get p.frame.code p.frame.pc ≡ Some (Give ty.Big (Operate (operation.Convert j Big)) into (a ∷ []))) where
  abbrev converting : Work
  converting = Operate (operation.Convert j Big)

  -- what the other comes to, where the slot has this number
  becomes : (w : Shared) (y : ℤ) → core.slot p.frame.slots a ≡ Holds (Num y)
      → (sides m).program.step w p ≡ code.goes_on w p (core.put p.frame.slots into (Holds (Num (wrapped Big y))))
  becomes w y e =
      ap (code.next frames_limit (program m) w p) here
      ∙ ap (λ (v : Slot). code.goes_on w p (core.put p.frame.slots into
      (Holds (fitted m.adts ty.Big (Num (wrapped Big (number_of (core.value_of v)))))))) e
      ∙ ap (λ (v : ℤ). code.goes_on w p (core.put p.frame.slots into (Holds (Num v)))) (within Big (wrapped Big y) (always Big y))

  module _ (number : ℕ) (f : typed.Function) (l box : ℕ) (inner : List Word) (q : Process) (k : Facts) (x : World)
      (s : Boxing m number f ty.Big into l box inner k i x p q) where
    slot_there : a < length p.frame.slots
    slot_there = (uses_on m b ty.Big converting into (a ∷ []) number f l box inner i p q k x s here).1.0

    is_of : IsA s.stands.is.known a (of_kind j)
    is_of =
        let found = finds_on m b ty.Big converting into (a ∷ []) number f l box inner i p q k x s here in
        (subst (AreThese s.stands.is.known (a ∷ [])) found.2.0.0 found.1).0

    number_there : form_of (of_kind j) ≡ AsNumber → NumberOn m k i x (into ∷ []) p.frame q.frame s.stands.is f s.function_is j a
    number_there form =
        number_on m k i x (into ∷ []) p.frame q.frame s.stands.is f s.function_is j a form slot_there (λ h. apart (only_one into a h)) is_of

byte_is_int : (z : ℤ) → InRange Byte z → InRange Int z
byte_is_int z r = let above = r.above in let below = r.below in record { above = omega (arith, ints, above); below = omega (arith, ints, below) }

ints_go : (m : typed.Module) (b : Base m) (into a : ℕ) → into ≢ a → InstrGoes m (Give ty.Big (Operate (operation.Convert Int Big)) into (a ∷ []))
ints_go m b into a apart k i x p q ready here =
    let o = Operate (operation.Convert Int Big) in
    let from = a ∷ [] in (
      1,
      starts m b ty.Big o into from 0 (λ f known found. big_laid m.adts) (λ c. refl) (λ f pc. omega arith) k i x p q ready here
          (λ number f there in_code row box r now w y s hold worlds.
          let inner = new_words m.adts ty.Big in
          let n = number_there m b Int into a apart i p here number f 1 box inner r now y s refl in
          let source = number_place m.adts (types_of m f) a in
          let it = inst op.Cvtwl (own source) middle.None (behind (box_place m number f ty.Big into) 0) in
          let old = old_big m b number f into 1 box inner i p r now w y s in
          ends_big m b o into from number f there i p here in_code row 1 box inner r now w y s hold worlds it refl
          (wrapped Big n.number) (always Big n.number)
          (numbers_work.converts frames_limit (object_of m) y r it Int Big n.number inner 0 (box_leads m b number f into 1 box inner i p r now w y s) old.0 refl
          (operands_are_read.source_number y r (own source) r.frame.words source Int (spots_lead.own y r source).0 ∙ n.found) old.1)
          refl (becomes m b Int into a apart i p here w n.number n.holds)),
    )

bigs_go : (m : typed.Module) (b : Base m) (into a : ℕ) → into ≢ a → InstrGoes m (Give ty.Big (Operate (operation.Convert Big Big)) into (a ∷ []))
bigs_go m b into a apart k i x p q ready here =
    let o = Operate (operation.Convert Big Big) in
    let from = a ∷ [] in (
      1,
      starts m b ty.Big o into from 0 (λ f known found. big_laid m.adts) (λ c. refl) (λ f pc. omega arith) k i x p q ready here
          (λ number f there in_code row box r now w y s hold worlds.
          let inner = new_words m.adts ty.Big in
          let big = big_is m now i y (into ∷ []) p.frame r.frame s.stands.is f s.function_is a
          (slot_there m b Big into a apart i p here number f 1 box inner r now y s) (λ h. apart (only_one into a h))
          (is_of m b Big into a apart i p here number f 1 box inner r now y s) in
          ends_big m b o into from number f there i p here in_code row 1 box inner r now w y s hold worlds _ refl big.number big.range
          (moved m b into a apart i p number f there box r now w y s hold worlds big op.Movl refl) refl
          (becomes m b Big into a apart i p here w big.number big.holds
          ∙ ap (λ (v : ℤ). code.goes_on w p (core.put p.frame.slots into (Holds (Num v)))) (within Big big.number big.range))),
    )

-- a byte does so by way of an int
module _ (m : typed.Module) (b : Base m) (into a : ℕ) (apart : into ≢ a) (i : ℕ) (p : code.Process)
    (here : slice_get p.frame.code p.frame.pc ≡ Some (Give ty.Big (Operate (operation.Convert Byte Big)) into (a ∷ []))) (number : ℕ) (f : typed.Function)
    (there : slice_get m.functions number ≡ Some f)
    (in_code : slice_get (of_function m f).code p.frame.pc ≡ Some (Give ty.Big (Operate (operation.Convert Byte Big)) into (a ∷ [])))
    (row : RowStands m number f p.frame.pc (Give ty.Big (Operate (operation.Convert Byte Big)) into (a ∷ []))) where
  abbrev byte_work : Work
  byte_work = Operate (operation.Convert Byte Big)

  byte_last : (box : ℕ) (inner : List Word) (q : Process) (k : Facts) (w : Shared) (x : World) (s : Boxing m number f ty.Big into 2 box inner k i x p q)
      → HoldTheSame m k i x p q → (sides m).worlds k w x → (y : ℤ) → InRange Byte y → core.slot p.frame.slots a ≡ Holds (Num y)
      → number_at Int q.frame.words (pos passing_place) ≡ Found (wrapped Int y) → Next m b i p 0 k w x q
  byte_last box inner q k w x s hold worlds y range holds read =
      let old = old_big m b number f into 2 box inner i p q k w x s in
      let it = inst op.Cvtwl (own passing_place) middle.None (behind (box_place m number f ty.Big into) 0) in
      ends_big m b byte_work into (a ∷ []) number f there i p here in_code row 2 box inner q k w x s hold worlds it refl
      (wrapped Big (wrapped Int y)) (always Big (wrapped Int y))
      (numbers_work.converts frames_limit (object_of m) x q it Int Big (wrapped Int y) inner 0 (box_leads m b number f into 2 box inner i p q k w x s) old.0 refl
      (operands_are_read.source_number x q (own passing_place) q.frame.words passing_place Int (spots_lead.own x q passing_place).0 ∙ read) old.1)
      refl
      (becomes m b Byte into a apart i p here w y holds
      ∙ ap (λ (d : ℤ). code.goes_on w p (core.put p.frame.slots into (Holds (Num (wrapped Big d))))) (sym (within Int y (byte_is_int y range))))

  byte_first : (box : ℕ) (q : Process) (k : Facts) (w : Shared) (x : World) → Boxing m number f ty.Big into 1 box (new_words m.adts ty.Big) k i x p q
      → HoldTheSame m k i x p q → (sides m).worlds k w x → Next m b i p 1 k w x q
  byte_first box q k w x s hold worlds =
      let inner = new_words m.adts ty.Big in
      let n = number_there m b Byte into a apart i p here number f 1 box inner q k x s refl in
      let source = number_place m.adts (types_of m f) a in
      let it = inst op.Cvtbw (own source) middle.None (own passing_place) in
      let old = old_int m b number f ty.Big into 1 box inner i p q k w x s in
      passes_int m b ty.Big byte_work into (a ∷ []) number f there i p here in_code row 1 box inner q k w x s hold worlds it refl (wrapped Int n.number)
      (always Int n.number)
      (numbers_work.converts frames_limit (object_of m) x q it Byte Int n.number q.frame.words passing_place
      (passing_leads m b number f ty.Big into 1 box inner i p q k w x s) old.0 refl
      (operands_are_read.source_number x q (own source) q.frame.words source Byte (spots_lead.own x q source).0 ∙ n.found) old.1)
      0 (omega arith)
      (λ now v y t h e read. byte_last box inner _ now v y t h e n.number n.range n.holds read)

bytes_go : (m : typed.Module) (b : Base m) (into a : ℕ) → into ≢ a → InstrGoes m (Give ty.Big (Operate (operation.Convert Byte Big)) into (a ∷ []))
bytes_go m b into a apart k i x p q ready here = (
  2,
  starts m b ty.Big (Operate (operation.Convert Byte Big)) into (a ∷ []) 1 (λ f known found. big_laid m.adts) (λ c. refl) (λ f pc. omega arith) k i x p q ready
      here
      (λ number f there in_code row box t now w y s hold worlds.
      byte_first m b into a apart i p here number f there in_code row box t now w y s hold worlds),
)

kinds_go : (m : typed.Module) (b : Base m) (j : Kind) (into a : ℕ) → into ≢ a → InstrGoes m (Give ty.Big (Operate (operation.Convert j Big)) into (a ∷ []))
kinds_go m b Byte into a apart = bytes_go m b into a apart
kinds_go m b Int into a apart = ints_go m b into a apart
kinds_go m b Big into a apart = bigs_go m b into a apart

pub big_converts_go : BigConvertsGo
big_converts_go m b t j into from k i x p q ready here =
    let it = Give t (Operate (operation.Convert j Big)) into from in
    let r = ready.0 in
    let known = r.stands.is.known in
    let found = finds m r.stands.is.function p.frame.pc known it r.stands.goes (code_here m k i x p q r it here) in
    let slot = one_slot known from (of_kind j) (subst (AreThese known from) found.2.0.0 found.1) in
    let differ = subst (DiffersFrom into) slot.1 (slots_differ m r.stands.is.function p.frame.pc it (code_here m k i x p q r it here)) in
    kinds_go m b j into slot.0 differ.0 k i x p q ready
    (here ∙ ap (λ (v : Ty). Some (Give v (Operate (operation.Convert j Big)) into from)) found.2.0.1
    ∙ ap (λ (rs : List ℕ). Some (Give ty.Big (Operate (operation.Convert j Big)) into rs)) slot.1)
