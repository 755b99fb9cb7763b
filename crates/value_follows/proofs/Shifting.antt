-- Bytes and ints that are shifted.
use Rattle.std.proofs.Common.{◌≡◌, ℕ, ℤ, suc, pos, ◌<◌, ◌≤◌, List, [], ◌∷◌, length, Some, refl, ap, ◌∙◌, subst, arith}
use Rattle.std.specs.Prelude.{slice_get}
use Rattle.limbo_types.specs.Types.{Ty}
use Rattle.limbo_values.specs.declared.number.Kind.{Kind}
use Rattle.limbo_values.specs.declared.number.Kind.TheVariants.{Byte, Int, Big}
use Rattle.limbo_values.specs.declared.operator.Shift.{Shift}
use Rattle.limbo_values.specs.declared.operator.Shift.TheVariants as shift
use Rattle.limbo_values.specs.Operators.{shifted}
use Rattle.limbo_values.proofs.Ranges.{within, shifted_in}
use Rattle.limbo_typed.specs.declared.operation.Operation.TheVariants as operation
use Rattle.limbo_types.specs.Types as ty
use Rattle.limbo_typed.specs.Fitting.{of_kind}
use Rattle.limbo_typed.specs.Typed as typed
use Rattle.limbo_meaning.specs.Process.{Shared}
use Rattle.limbo_meaning.specs.Trees.{Operate}
use Rattle.limbo_meaning.specs.Values.{Num, number_of, fitted}
use Rattle.system_model.specs.Limits.{frames_limit}
use Rattle.core_code.specs.Code.{Instr, Give}
use Rattle.core_code.specs.Machine as code
use Rattle.core_code.specs.Slots as core
use Rattle.core_code.specs.Slots.{Slot, Holds}
use Rattle.core_typing.specs.Needs.{AreThese, IsClean}
use Rattle.core_typing.specs.Going.{got_by}
use Rattle.core_typing.specs.Held as held
use Rattle.dis_meaning.specs.Numbers.{Shifts, number_row}
use Rattle.dis_meaning.specs.Process.{Process}
use Rattle.dis_memory.specs.Blocks.{World}
use Rattle.value_words.specs.Facts.{Facts}
use Rattle.value_frames.specs.Frames.{AsNumber, form_of, number_place}
use Rattle.value_moves.specs.Operands.{inst, own, of_own}
use Rattle.value_moves.specs.Changing.{bytes_in}
use Rattle.value_moves.proofs.Leading.{spots_lead}
use Rattle.value_code.specs.Objects.{object_of, of_function, size_at}
use Rattle.value_code.specs.Works.{shift_op}
use Rattle.number_effects.proofs.Reading.{operands_are_read}
use Rattle.number_effects.proofs.Numbers.{numbers_work}
use Rattle.value_follows.specs.Stands.{Ready, types_of}
use Rattle.value_follows.specs.Sides.{sides, HoldTheSame, program}
use Rattle.value_follows.specs.Rows.{Base, InstrGoes, ShiftsGo}
use Rattle.value_follows.proofs.Standing.{finds, code_here}
use Rattle.value_follows.proofs.Slots.{uses, number_is, NumberIs}
use Rattle.value_follows.proofs.Single.{Once, single}
use Rattle.value_follows.proofs.Jumps.{behind_it}
use Rattle.value_follows.proofs.Putting.{old_word}
use Rattle.value_follows.proofs.Arithmetic.{two_slots}
use Rattle.value_follows.proofs.Numbers.{begins, leads, number_stored}

op_row : (h : Shift) (j : Kind) → number_row (shift_op h j) ≡ Some (Shifts j h)
op_row shift.Left Byte = refl
op_row shift.Left Int = refl
op_row shift.Left Big = refl
op_row shift.Right Byte = refl
op_row shift.Right Int = refl
op_row shift.Right Big = refl

module _ (m : typed.Module) (b : Base m) (h : Shift) (j : Kind) (form : form_of (of_kind j) ≡ AsNumber) (into a c : ℕ) where
  abbrev instr : Instr
  instr = Give (of_kind j) (Operate (operation.Shift h j)) into (a ∷ c ∷ [])

  module _ (k : Facts) (i : ℕ) (w : Shared) (x : World) (p : code.Process) (q : Process) (ready : Ready m k i x p q) (hold : HoldTheSame m k i x p q) (worlds : (sides m).worlds k w x) (here : slice_get p.frame.code p.frame.pc ≡ Some instr) where
    abbrev place : ℕ → ℕ
    place s = number_place m.adts (types_of m ready.stands.is.function) s

    shift_goes : (ya : NumberIs m k i x [] p.frame q.frame ready.stands.is j a) (yc : NumberIs m k i x [] p.frame q.frame ready.stands.is Int c)
        (l : into < length p.frame.slots) (clean : IsClean (held.slot ready.stands.is.known into))
        (size : size_at m ready.stands.is.function.of.answer (of_function m ready.stands.is.function) p.frame.pc (Some instr) ≡ 1)
        (is : begins m b k i w x p q ready hold worlds instr here (inst (shift_op h j) (own (place c)) (of_own (place a)) (own (place into))))
        → bytes_in j ≤ 4
        → (sides m).program.step w p ≡ code.goes_on w p (core.put p.frame.slots into (Holds (Num (shifted j h ya.number yc.number))))
        → Once m b i p q k w x
    shift_goes ya yc l clean size is few does =
        let it = inst (shift_op h j) (own (place c)) (of_own (place a)) (own (place into)) in
        let old = (old_word m k i x p q ready into l clean).number j form in
        number_stored m b k i w x p q ready hold worlds instr here into l clean size it is j form (shifted j h ya.number yc.number)
        (shifted_in j h ya.number yc.number ya.range) (got_by m.adts (of_kind j) (Operate (operation.Shift h j)))
        (behind_it m b k i w x p q ready hold worlds instr here 0 (suc p.frame.pc) _ (omega arith) refl)
        does
        (numbers_work.shifts frames_limit (object_of m) x q it j h yc.number ya.number q.frame.words (place into)
        (leads m b k i w x p q ready hold worlds instr here into l clean) old.0 (op_row h j)
        (operands_are_read.source_number x q (own (place c)) q.frame.words (place c) Int (spots_lead.own x q (place c)).0 ∙ yc.found)
        (operands_are_read.own_middle x q j (pos (place a)) (own (place into)) ∙ operands_are_read.own_number x q j (place a) ∙ ya.found)
        old.1)
        few

bytes_go : (m : typed.Module) (b : Base m) (h : Shift) (into a c : ℕ) → InstrGoes m (instr m b h Byte refl into a c)
bytes_go m b h into a c k i x p q ready here =
    single m b i p q k x ready (λ now w y r hold worlds.
    let is = r.stands.is in
    let it = instr m b h Byte refl into a c in
    let row = code_here m now i y p q r it here in
    let found = finds m is.function p.frame.pc is.known it r.stands.goes row in
    let these = subst (AreThese is.known (a ∷ c ∷ [])) found.2.0.0 found.1 in
    let named = uses m now i y [] p.frame q.frame is p.frame.pc it row in
    let ya = number_is m now i y [] p.frame q.frame is Byte a refl named.1.0 (λ e. e) these.0 in
    let yc = number_is m now i y [] p.frame q.frame is Int c refl named.1.1.0 (λ e. e) these.1.0 in
    shift_goes m b h Byte refl into a c now i w y p q r hold worlds here ya yc named.0 found.3 refl refl (omega arith)
    (ap (code.next frames_limit (program m) w p) here
    ∙ ap (λ (v : Slot). code.goes_on w p (core.put p.frame.slots into
    (Holds (fitted m.adts (of_kind Byte) (Num (shifted Byte h (number_of (core.value_of v)) (number_of (core.value_of (core.slot p.frame.slots c))))))))) ya.holds
    ∙ ap (λ (v : Slot). code.goes_on w p (core.put p.frame.slots into
    (Holds (fitted m.adts (of_kind Byte) (Num (shifted Byte h ya.number (number_of (core.value_of v)))))))) yc.holds
    ∙ ap (λ (y : ℤ). code.goes_on w p (core.put p.frame.slots into (Holds (Num y))))
    (within Byte (shifted Byte h ya.number yc.number) (shifted_in Byte h ya.number yc.number ya.range))))

ints_go : (m : typed.Module) (b : Base m) (h : Shift) (into a c : ℕ) → InstrGoes m (instr m b h Int refl into a c)
ints_go m b h into a c k i x p q ready here =
    single m b i p q k x ready (λ now w y r hold worlds.
    let is = r.stands.is in
    let it = instr m b h Int refl into a c in
    let row = code_here m now i y p q r it here in
    let found = finds m is.function p.frame.pc is.known it r.stands.goes row in
    let these = subst (AreThese is.known (a ∷ c ∷ [])) found.2.0.0 found.1 in
    let named = uses m now i y [] p.frame q.frame is p.frame.pc it row in
    let ya = number_is m now i y [] p.frame q.frame is Int a refl named.1.0 (λ e. e) these.0 in
    let yc = number_is m now i y [] p.frame q.frame is Int c refl named.1.1.0 (λ e. e) these.1.0 in
    shift_goes m b h Int refl into a c now i w y p q r hold worlds here ya yc named.0 found.3 refl refl (omega arith)
    (ap (code.next frames_limit (program m) w p) here
    ∙ ap (λ (v : Slot). code.goes_on w p (core.put p.frame.slots into
    (Holds (fitted m.adts (of_kind Int) (Num (shifted Int h (number_of (core.value_of v)) (number_of (core.value_of (core.slot p.frame.slots c))))))))) ya.holds
    ∙ ap (λ (v : Slot). code.goes_on w p (core.put p.frame.slots into
    (Holds (fitted m.adts (of_kind Int) (Num (shifted Int h ya.number (number_of (core.value_of v)))))))) yc.holds
    ∙ ap (λ (y : ℤ). code.goes_on w p (core.put p.frame.slots into (Holds (Num y))))
    (within Int (shifted Int h ya.number yc.number) (shifted_in Int h ya.number yc.number ya.range))))

kinds_go : (m : typed.Module) (b : Base m) (h : Shift) (j : Kind) (into a c : ℕ) → (j ≡ Big → ⊥)
    → InstrGoes m (Give (of_kind j) (Operate (operation.Shift h j)) into (a ∷ c ∷ []))
kinds_go m b h Byte into a c small = bytes_go m b h into a c
kinds_go m b h Int into a c small = ints_go m b h into a c
kinds_go m b h Big into a c small = absurd (small refl)

pub shifts_go : ShiftsGo
shifts_go m b t h j into from small k i x p q ready here =
    let it = Give t (Operate (operation.Shift h j)) into from in
    let r = ready.0 in
    let known = r.stands.is.known in
    let found = finds m r.stands.is.function p.frame.pc known it r.stands.goes (code_here m k i x p q r it here) in
    let slots = two_slots known from (of_kind j) ty.Int (subst (AreThese known from) found.2.0.0 found.1) in
    kinds_go m b h j into slots.0 slots.1 small k i x p q ready
    (here ∙ ap (λ (u : Ty). Some (Give u (Operate (operation.Shift h j)) into from)) found.2.0.1
    ∙ ap (λ (rs : List ℕ). Some (Give (of_kind j) (Operate (operation.Shift h j)) into rs)) slots.2)
