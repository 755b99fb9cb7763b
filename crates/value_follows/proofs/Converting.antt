-- Bytes that become ints, and ints that become bytes.
use Rattle.std.proofs.Common.{◌≡◌, ℕ, ℤ, suc, ◌<◌, ◌≤◌, List, [], ◌∷◌, length, Some, refl, ap, ◌∙◌, subst, arith}
use Rattle.std.specs.Prelude.{slice_get}
use Rattle.limbo_types.specs.Types.{Ty}
use Rattle.limbo_values.specs.declared.number.Kind.{Kind}
use Rattle.limbo_values.specs.declared.number.Kind.TheVariants.{Byte, Int, Big}
use Rattle.limbo_values.specs.Numbers.{wrapped}
use Rattle.limbo_values.proofs.Ranges.{within, always}
use Rattle.limbo_typed.specs.declared.operation.Operation.TheVariants.{Convert}
use Rattle.limbo_typed.specs.Fitting.{of_kind}
use Rattle.limbo_typed.specs.Typed as typed
use Rattle.limbo_meaning.specs.Process.{Shared}
use Rattle.limbo_meaning.specs.Trees.{Operate}
use Rattle.limbo_meaning.specs.Values.{Num, number_of, fitted}
use Rattle.system_model.specs.Limits.{frames_limit}
use Rattle.core_code.specs.Code.{Instr, Give}
use Rattle.core_code.specs.Machine as code
use Rattle.core_code.specs.Slots as core
use Rattle.core_code.specs.Slots.{Slot, Holds}
use Rattle.core_typing.specs.Needs.{AreThese, IsClean}
use Rattle.core_typing.specs.Going.{got_by}
use Rattle.core_typing.specs.Held as held
use Rattle.dis_isa.specs.declared.op.Op.{Op}
use Rattle.dis_isa.specs.declared.op.Op.TheVariants as op
use Rattle.dis_isa.specs.declared.inst.Middle.TheVariants as middle
use Rattle.dis_meaning.specs.Numbers.{Converts, number_row}
use Rattle.dis_meaning.specs.Process.{Process}
use Rattle.dis_memory.specs.Blocks.{World}
use Rattle.value_words.specs.Facts.{Facts}
use Rattle.value_frames.specs.Frames.{AsNumber, form_of, number_place}
use Rattle.value_moves.specs.Operands.{inst, own}
use Rattle.value_moves.specs.Changing.{bytes_in}
use Rattle.value_moves.proofs.Leading.{spots_lead}
use Rattle.value_code.specs.Objects.{object_of, of_function, size_at}
use Rattle.number_effects.proofs.Reading.{operands_are_read}
use Rattle.number_effects.proofs.Numbers.{numbers_work}
use Rattle.value_follows.specs.Stands.{Ready, types_of}
use Rattle.value_follows.specs.Sides.{sides, HoldTheSame, program}
use Rattle.value_follows.specs.Rows.{Base, InstrGoes, ConvertsGo}
use Rattle.value_follows.proofs.Standing.{finds, code_here}
use Rattle.value_follows.proofs.Slots.{uses, number_is, NumberIs}
use Rattle.value_follows.proofs.Single.{Once, single}
use Rattle.value_follows.proofs.Jumps.{behind_it}
use Rattle.value_follows.proofs.Putting.{old_word}
use Rattle.value_follows.proofs.Comparing.{one_slot}
use Rattle.value_follows.proofs.Numbers.{begins, leads, number_stored}

module _ (m : typed.Module) (b : Base m) (j l : Kind) (form : form_of (of_kind l) ≡ AsNumber) (into a : ℕ) where
  abbrev instr : Instr
  instr = Give (of_kind l) (Operate (Convert j l)) into (a ∷ [])

  module _ (k : Facts) (i : ℕ) (w : Shared) (x : World) (p : code.Process) (q : Process) (ready : Ready m k i x p q) (hold : HoldTheSame m k i x p q) (worlds : (sides m).worlds k w x) (here : slice_get p.frame.code p.frame.pc ≡ Some instr) where
    abbrev place : ℕ → ℕ
    place s = number_place m.adts (types_of m ready.stands.is.function) s

    convert_goes : (o : Op) → number_row o ≡ Some (Converts j l) → (y : NumberIs m k i x [] p.frame q.frame ready.stands.is j a)
        (few : into < length p.frame.slots) (clean : IsClean (held.slot ready.stands.is.known into))
        (size : size_at m ready.stands.is.function.of.answer (of_function m ready.stands.is.function) p.frame.pc (Some instr) ≡ 1)
        (is : begins m b k i w x p q ready hold worlds instr here (inst o (own (place a)) middle.None (own (place into))))
        → bytes_in l ≤ 4 → (sides m).program.step w p ≡ code.goes_on w p (core.put p.frame.slots into (Holds (Num (wrapped l y.number))))
        → Once m b i p q k w x
    convert_goes o row y few clean size is small does =
        let it = inst o (own (place a)) middle.None (own (place into)) in
        let old = (old_word m k i x p q ready into few clean).number l form in
        number_stored m b k i w x p q ready hold worlds instr here into few clean size it is l form (wrapped l y.number) (always l y.number)
        (got_by m.adts (of_kind l) (Operate (Convert j l)))
        (behind_it m b k i w x p q ready hold worlds instr here 0 (suc p.frame.pc) _ (omega arith) refl)
        does
        (numbers_work.converts frames_limit (object_of m) x q it j l y.number q.frame.words (place into)
        (leads m b k i w x p q ready hold worlds instr here into few clean) old.0 row
        (operands_are_read.source_number x q (own (place a)) q.frame.words (place a) j (spots_lead.own x q (place a)).0 ∙ y.found)
        old.1)
        small

bytes_go : (m : typed.Module) (b : Base m) (into a : ℕ) → InstrGoes m (instr m b Byte Int refl into a)
bytes_go m b into a k i x p q ready here =
    single m b i p q k x ready (λ now w v r hold worlds.
    let is = r.stands.is in
    let it = instr m b Byte Int refl into a in
    let row = code_here m now i v p q r it here in
    let found = finds m is.function p.frame.pc is.known it r.stands.goes row in
    let these = subst (AreThese is.known (a ∷ [])) found.2.0.0 found.1 in
    let named = uses m now i v [] p.frame q.frame is p.frame.pc it row in
    let y = number_is m now i v [] p.frame q.frame is Byte a refl named.1.0 (λ e. e) these.0 in
    convert_goes m b Byte Int refl into a now i w v p q r hold worlds here op.Cvtbw refl y named.0 found.3 refl refl (omega arith)
    (ap (code.next frames_limit (program m) w p) here
    ∙ ap (λ (s : Slot). code.goes_on w p (core.put p.frame.slots into
    (Holds (fitted m.adts (of_kind Int) (Num (wrapped Int (number_of (core.value_of s)))))))) y.holds
    ∙ ap (λ (z : ℤ). code.goes_on w p (core.put p.frame.slots into (Holds (Num z)))) (within Int (wrapped Int y.number) (always Int y.number))))

ints_go : (m : typed.Module) (b : Base m) (into a : ℕ) → InstrGoes m (instr m b Int Byte refl into a)
ints_go m b into a k i x p q ready here =
    single m b i p q k x ready (λ now w v r hold worlds.
    let is = r.stands.is in
    let it = instr m b Int Byte refl into a in
    let row = code_here m now i v p q r it here in
    let found = finds m is.function p.frame.pc is.known it r.stands.goes row in
    let these = subst (AreThese is.known (a ∷ [])) found.2.0.0 found.1 in
    let named = uses m now i v [] p.frame q.frame is p.frame.pc it row in
    let y = number_is m now i v [] p.frame q.frame is Int a refl named.1.0 (λ e. e) these.0 in
    convert_goes m b Int Byte refl into a now i w v p q r hold worlds here op.Cvtwb refl y named.0 found.3 refl refl (omega arith)
    (ap (code.next frames_limit (program m) w p) here
    ∙ ap (λ (s : Slot). code.goes_on w p (core.put p.frame.slots into
    (Holds (fitted m.adts (of_kind Byte) (Num (wrapped Byte (number_of (core.value_of s)))))))) y.holds
    ∙ ap (λ (z : ℤ). code.goes_on w p (core.put p.frame.slots into (Holds (Num z)))) (within Byte (wrapped Byte y.number) (always Byte y.number))))

kinds_go : (m : typed.Module) (b : Base m) (j l : Kind) (into a : ℕ) → (j ≡ Big → ⊥) → (l ≡ Big → ⊥) → (j ≡ l → ⊥)
    → InstrGoes m (Give (of_kind l) (Operate (Convert j l)) into (a ∷ []))
kinds_go m b Byte Int into a first second apart = bytes_go m b into a
kinds_go m b Int Byte into a first second apart = ints_go m b into a
kinds_go m b Byte Byte into a first second apart = absurd (apart refl)
kinds_go m b Int Int into a first second apart = absurd (apart refl)
kinds_go m b Big l into a first second apart = absurd (first refl)
kinds_go m b j Big into a first second apart = absurd (second refl)

pub converts_go : ConvertsGo
converts_go m b t j l into from first second apart k i x p q ready here =
    let it = Give t (Operate (Convert j l)) into from in
    let r = ready.0 in
    let known = r.stands.is.known in
    let found = finds m r.stands.is.function p.frame.pc known it r.stands.goes (code_here m k i x p q r it here) in
    let slot = one_slot known from (of_kind j) (subst (AreThese known from) found.2.0.0 found.1) in
    kinds_go m b j l into slot.0 first second apart k i x p q ready
    (here ∙ ap (λ (u : Ty). Some (Give u (Operate (Convert j l)) into from)) found.2.0.1
    ∙ ap (λ (rs : List ℕ). Some (Give (of_kind l) (Operate (Convert j l)) into rs)) slot.1)
