-- What is calculated from two bytes or two ints.
use Rattle.std.proofs.Common.{◌≡◌, ℕ, ℤ, suc, pos, ◌<◌, ◌≤◌, List, [], ◌∷◌, length, Some, Result, Ok, Err, IfOk, refl, ap, ◌∙◌, subst, arith}
use Rattle.std.specs.Prelude.{slice_get}
use Rattle.limbo_types.specs.Types.{Ty}
use Rattle.limbo_values.specs.declared.number.Kind.{Kind}
use Rattle.limbo_values.specs.declared.number.Kind.TheVariants.{Byte, Int, Big}
use Rattle.limbo_values.specs.declared.operator.Operator.{Operator}
use Rattle.limbo_values.specs.declared.operator.Operator.TheVariants as operator
use Rattle.limbo_values.specs.declared.raised.Raised.{Raised}
use Rattle.limbo_values.specs.Numbers.{InRange}
use Rattle.limbo_values.specs.Operators.{applied, text_of}
use Rattle.limbo_values.proofs.Ranges.{within, applied_in}
use Rattle.limbo_typed.specs.Typed as typed
use Rattle.limbo_typed.specs.Fitting.{of_kind}
use Rattle.limbo_typed.specs.declared.operation.Operation.TheVariants.{Arithmetic}
use Rattle.limbo_meaning.specs.Exceptions.{with_text}
use Rattle.limbo_meaning.specs.Operations.{gives_number}
use Rattle.limbo_meaning.specs.Evaluation.{unless_raised, leaves}
use Rattle.limbo_meaning.specs.Process.{Shared}
use Rattle.limbo_meaning.specs.Trees.{Operate}
use Rattle.limbo_meaning.specs.Values.{Num, number_of}
use Rattle.system_model.specs.Limits.{frames_limit}
use Rattle.system_model.specs.Ending.{Broken}
use Rattle.core_code.specs.Code.{Instr, Give}
use Rattle.core_code.specs.Machine as code
use Rattle.core_code.specs.Slots as core
use Rattle.core_code.specs.Slots.{Holds}
use Rattle.core_typing.specs.Held as held
use Rattle.core_typing.specs.Held.{Of}
use Rattle.core_typing.specs.Needs.{AreThese, IsClean}
use Rattle.core_typing.specs.Going.{got_by}
use Rattle.dis_isa.specs.declared.inst.Inst.{Inst}
use Rattle.dis_meaning.specs.Numbers.{Calculates, number_row, number_at}
use Rattle.dis_meaning.specs.Process.{Process}
use Rattle.dis_memory.specs.Blocks.{World}
use Rattle.dis_memory.specs.Places.{source_of, middle_of}
use Rattle.dis_meaning.specs.Words.{Found}
use Rattle.value_words.specs.Facts.{Facts}
use Rattle.value_frames.specs.Frames.{AsNumber, form_of, number_place}
use Rattle.value_moves.specs.Operands.{inst, own, of_own}
use Rattle.value_moves.specs.Changing.{bytes_in}
use Rattle.value_moves.proofs.Leading.{spots_lead}
use Rattle.value_code.specs.Objects.{object_of, of_function, size_at}
use Rattle.value_code.specs.Works.{arithmetic_op}
use Rattle.number_effects.proofs.Reading.{operands_are_read}
use Rattle.number_effects.proofs.Numbers.{numbers_work}
use Rattle.number_effects.proofs.Stepping.{steps_obey}
use Rattle.value_follows.specs.Stands.{Ready, types_of}
use Rattle.value_follows.specs.Sides.{sides, HoldTheSame, program}
use Rattle.value_follows.specs.Rows.{Base, InstrGoes, ArithmeticGoes}
use Rattle.value_follows.proofs.Standing.{finds, code_here}
use Rattle.value_follows.proofs.Slots.{uses, number_is, NumberIs}
use Rattle.value_follows.proofs.Single.{Once, single, both_end}
use Rattle.value_follows.proofs.Jumps.{first, behind_it}
use Rattle.value_follows.proofs.Putting.{old_word}
use Rattle.value_follows.proofs.Numbers.{begins, leads, number_stored}

op_row : (o : Operator) (j : Kind) → number_row (arithmetic_op o j) ≡ Some (Calculates j o)
op_row operator.Add Byte = refl
op_row operator.Add Int = refl
op_row operator.Add Big = refl
op_row operator.Subtract Byte = refl
op_row operator.Subtract Int = refl
op_row operator.Subtract Big = refl
op_row operator.Multiply Byte = refl
op_row operator.Multiply Int = refl
op_row operator.Multiply Big = refl
op_row operator.Divide Byte = refl
op_row operator.Divide Int = refl
op_row operator.Divide Big = refl
op_row operator.Remainder Byte = refl
op_row operator.Remainder Int = refl
op_row operator.Remainder Big = refl
op_row operator.And Byte = refl
op_row operator.And Int = refl
op_row operator.And Big = refl
op_row operator.Xor Byte = refl
op_row operator.Xor Int = refl
op_row operator.Xor Big = refl
op_row operator.Or Byte = refl
op_row operator.Or Int = refl
op_row operator.Or Big = refl

-- two operands, in two slots
pub two_slots : (slots : held.Slots) (from : List ℕ) (t u : Ty) → AreThese slots from (t ∷ u ∷ []) → (a : ℕ) × (c : ℕ) × (from ≡ a ∷ c ∷ [])
two_slots slots [] t u these = absurd these
two_slots slots (a ∷ []) t u these = absurd these.1
two_slots slots (a ∷ c ∷ []) t u these = (a, c, refl)
two_slots slots (a ∷ c ∷ d ∷ more) t u these = absurd these.1.1

module _ (m : typed.Module) (b : Base m) (o : Operator) (j : Kind) (form : form_of (of_kind j) ≡ AsNumber) (into a c : ℕ) where
  abbrev instr : Instr
  instr = Give (of_kind j) (Operate (Arithmetic o j)) into (a ∷ c ∷ [])

  module _ (k : Facts) (i : ℕ) (w : Shared) (x : World) (p : code.Process) (q : Process) (ready : Ready m k i x p q) (hold : HoldTheSame m k i x p q) (worlds : (sides m).worlds k w x) (here : slice_get p.frame.code p.frame.pc ≡ Some instr) where
    abbrev place : ℕ → ℕ
    place s = number_place m.adts (types_of m ready.stands.is.function) s

    -- what the other comes to, by what is calculated
    abbrev comes : Result ℤ Raised → code.Does
    comes r = code.gives frames_limit (program m) w p into
        (unless_raised (gives_number m.adts (code.memory frames_limit (program m) w p) (with_text r)) (leaves m.adts (code.memory frames_limit (program m) w p) (of_kind j) (Arithmetic o j)))

    module _ (ya : NumberIs m k i x [] p.frame q.frame ready.stands.is j a) (yc : NumberIs m k i x [] p.frame q.frame ready.stands.is j c)
        (l : into < length p.frame.slots) (clean : IsClean (held.slot ready.stands.is.known into))
        (size : size_at m ready.stands.is.function.of.answer (of_function m ready.stands.is.function) p.frame.pc (Some instr) ≡ 1)
        (is : begins m b k i w x p q ready hold worlds instr here (inst (arithmetic_op o j) (own (place c)) (of_own (place a)) (own (place into))))
        (few : bytes_in j ≤ 4)
        (done : (z : ℤ) → InRange j z → comes (Ok z) ≡ code.goes_on w p (core.put p.frame.slots into (Holds (Num z)))) where
      abbrev op_inst : Inst
      op_inst = inst (arithmetic_op o j) (own (place c)) (of_own (place a)) (own (place into))

      does : (r : Result ℤ Raised) → applied j o ya.number yc.number ≡ r → (sides m).program.step w p ≡ comes r
      does r e =
          ap (code.next frames_limit (program m) w p) here
          ∙ ap (λ (v : core.Slot). comes (applied j o (number_of (core.value_of v)) (number_of (core.value_of (core.slot p.frame.slots c))))) ya.holds
          ∙ ap (λ (v : core.Slot). comes (applied j o ya.number (number_of (core.value_of v)))) yc.holds
          ∙ ap comes e

      right : source_of j x q op_inst.src ≡ Found yc.number
      right = operands_are_read.source_number x q (own (place c)) q.frame.words (place c) j (spots_lead.own x q (place c)).0 ∙ yc.found

      left : middle_of j x q op_inst.middle op_inst.dst ≡ Found ya.number
      left =
          operands_are_read.own_middle x q j (pos (place a)) (own (place into))
          ∙ operands_are_read.own_number x q j (place a) ∙ ya.found

      old : (z : ℤ) × (number_at j q.frame.words (pos (place into)) ≡ Found z)
      old = (old_word m k i x p q ready into l clean).number j form

      go : (r : Result ℤ Raised) → applied j o ya.number yc.number ≡ r → Once m b i p q k w x
      go (Ok z) e =
          let range : InRange j z = subst (λ r. IfOk r (InRange j)) e (applied_in j o ya.number yc.number) in
          number_stored m b k i w x p q ready hold worlds instr here into l clean size op_inst is j form z range (got_by m.adts (of_kind j) (Operate (Arithmetic o j)))
          (behind_it m b k i w x p q ready hold worlds instr here 0 (suc p.frame.pc) _ (omega arith) refl)
          (does (Ok z) e ∙ done z range)
          (numbers_work.calculates frames_limit (object_of m) x q op_inst j o yc.number ya.number q.frame.words (place into)
          (leads m b k i w x p q ready hold worlds instr here into l clean) old.0 z (op_row o j) right left old.1 e)
          few
      go (Err raised) e =
          both_end m b i p q k w x worlds (Broken (text_of raised))
          (steps_obey.raises frames_limit (object_of m ∷ []) x q (object_of m) op_inst (text_of raised) (first m b k i w x p q ready hold worlds instr here op_inst is)
          (numbers_work.calculates_raised frames_limit (object_of m) x q op_inst j o yc.number ya.number q.frame.words (place into)
          (leads m b k i w x p q ready hold worlds instr here into l clean) old.0 raised (op_row o j) right left old.1 e))
          (does (Err raised) e)

      calculated : Once m b i p q k w x
      calculated = go (applied j o ya.number yc.number) refl

bytes_go : (m : typed.Module) (b : Base m) (o : Operator) (into a c : ℕ) → InstrGoes m (instr m b o Byte refl into a c)
bytes_go m b o into a c k i x p q ready here =
    single m b i p q k x ready (λ now w y r hold worlds.
    let is = r.stands.is in
    let it = instr m b o Byte refl into a c in
    let row = code_here m now i y p q r it here in
    let found = finds m is.function p.frame.pc is.known it r.stands.goes row in
    let these = subst (AreThese is.known (a ∷ c ∷ [])) found.2.0.0 found.1 in
    let named = uses m now i y [] p.frame q.frame is p.frame.pc it row in
    calculated m b o Byte refl into a c now i w y p q r hold worlds here
    (number_is m now i y [] p.frame q.frame is Byte a refl named.1.0 (λ e. e) these.0)
    (number_is m now i y [] p.frame q.frame is Byte c refl named.1.1.0 (λ e. e) these.1.0)
    named.0 found.3 refl refl (omega arith)
    (λ z range. ap (λ (y : ℤ). code.goes_on w p (core.put p.frame.slots into (Holds (Num y)))) (within Byte z range)))

ints_go : (m : typed.Module) (b : Base m) (o : Operator) (into a c : ℕ) → InstrGoes m (instr m b o Int refl into a c)
ints_go m b o into a c k i x p q ready here =
    single m b i p q k x ready (λ now w y r hold worlds.
    let is = r.stands.is in
    let it = instr m b o Int refl into a c in
    let row = code_here m now i y p q r it here in
    let found = finds m is.function p.frame.pc is.known it r.stands.goes row in
    let these = subst (AreThese is.known (a ∷ c ∷ [])) found.2.0.0 found.1 in
    let named = uses m now i y [] p.frame q.frame is p.frame.pc it row in
    calculated m b o Int refl into a c now i w y p q r hold worlds here
    (number_is m now i y [] p.frame q.frame is Int a refl named.1.0 (λ e. e) these.0)
    (number_is m now i y [] p.frame q.frame is Int c refl named.1.1.0 (λ e. e) these.1.0)
    named.0 found.3 refl refl (omega arith)
    (λ z range. ap (λ (y : ℤ). code.goes_on w p (core.put p.frame.slots into (Holds (Num y)))) (within Int z range)))

kinds_go : (m : typed.Module) (b : Base m) (o : Operator) (j : Kind) (into a c : ℕ) → (j ≡ Big → ⊥)
    → InstrGoes m (Give (of_kind j) (Operate (Arithmetic o j)) into (a ∷ c ∷ []))
kinds_go m b o Byte into a c small = bytes_go m b o into a c
kinds_go m b o Int into a c small = ints_go m b o into a c
kinds_go m b o Big into a c small = absurd (small refl)

pub arithmetic_goes : ArithmeticGoes
arithmetic_goes m b t o j into from small k i x p q ready here =
    let it = Give t (Operate (Arithmetic o j)) into from in
    let r = ready.0 in
    let known = r.stands.is.known in
    let found = finds m r.stands.is.function p.frame.pc known it r.stands.goes (code_here m k i x p q r it here) in
    let slots = two_slots known from (of_kind j) (of_kind j) (subst (AreThese known from) found.2.0.0 found.1) in
    kinds_go m b o j into slots.0 slots.1 small k i x p q ready
    (here ∙ ap (λ (u : Ty). Some (Give u (Operate (Arithmetic o j)) into from)) found.2.0.1
    ∙ ap (λ (rs : List ℕ). Some (Give (of_kind j) (Operate (Arithmetic o j)) into rs)) slots.2)
