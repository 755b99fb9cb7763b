-- Rows of one instruction: a big that becomes an int, and bytes and ints that are altered.
use Rattle.std.proofs.Common.{◌≡◌, ℕ, ℤ, zero, suc, pos, negsuc, ◌+◌, ◌-◌, ◌%◌, ◌+ℤ◌, ◌-ℤ◌, ◌<◌, ◌≤◌, List, [], ◌∷◌, length, Some, Result, Ok, refl, sym, ap, ◌∙◌, subst, arith}
use Rattle.std.specs.Prelude.{slice_get, neg_ℤ}
use Rattle.std.proofs.lemmas.Int.{ints}
use Rattle.limbo_types.specs.Types as ty
use Rattle.limbo_types.specs.Types.{Ty}
use Rattle.limbo_values.specs.declared.number.Kind.{Kind}
use Rattle.limbo_values.specs.declared.number.Kind.TheVariants.{Byte, Int, Big}
use Rattle.limbo_values.specs.declared.operator.Operator.{Operator}
use Rattle.limbo_values.specs.declared.operator.Operator.TheVariants as operator
use Rattle.limbo_values.specs.declared.operator.Unary.{Unary}
use Rattle.limbo_values.specs.declared.operator.Unary.TheVariants as unary
use Rattle.limbo_values.specs.declared.raised.Raised.{Raised}
use Rattle.limbo_values.specs.Numbers.{InRange, wrapped}
use Rattle.limbo_values.specs.Operators.{applied, altered}
use Rattle.limbo_values.proofs.Ranges.{within, always}
use Rattle.limbo_typed.specs.Typed as typed
use Rattle.limbo_typed.specs.Fitting.{of_kind}
use Rattle.limbo_typed.specs.declared.operation.Operation.TheVariants as operation
use Rattle.limbo_meaning.specs.Process.{Shared}
use Rattle.limbo_meaning.specs.Trees.{Operate}
use Rattle.limbo_meaning.specs.Values.{Value, Num, number_of, fitted}
use Rattle.system_model.specs.Limits.{frames_limit}
use Rattle.core_code.specs.Code.{Instr, Give}
use Rattle.core_code.specs.Machine as code
use Rattle.core_code.specs.Slots as core
use Rattle.core_code.specs.Slots.{Slot, Holds}
use Rattle.core_typing.specs.Going.{got_by}
use Rattle.core_typing.specs.Held as held
use Rattle.core_typing.specs.Needs.{AreThese, IsClean}
use Rattle.dis_isa.specs.declared.inst.Middle.TheVariants as middle
use Rattle.dis_isa.specs.declared.op.Op.{Op}
use Rattle.dis_isa.specs.declared.op.Op.TheVariants as op
use Rattle.dis_meaning.specs.Words.{Found}
use Rattle.dis_meaning.specs.Numbers.{Calculates, Moves, number_row, immediate_as}
use Rattle.dis_meaning.specs.Process.{Process}
use Rattle.dis_memory.specs.Blocks.{World}
use Rattle.value_words.specs.Facts.{Facts}
use Rattle.value_frames.specs.Frames.{AsNumber, form_of, number_place, reference_place}
use Rattle.value_moves.specs.Operands.{inst, own, behind}
use Rattle.value_moves.specs.Changing.{bytes_in}
use Rattle.value_moves.proofs.Leading.{spots_lead}
use Rattle.value_code.specs.Objects.{object_of, of_function, size_at}
use Rattle.number_effects.proofs.Reading.{operands_are_read}
use Rattle.number_effects.proofs.Numbers.{numbers_work}
use Rattle.value_follows.specs.Stands.{Ready, types_of}
use Rattle.value_follows.specs.Sides.{sides, program, HoldTheSame}
use Rattle.value_follows.specs.Rows.{Base, InstrGoes}
use Rattle.value_follows.proofs.Standing.{finds, code_here}
use Rattle.value_follows.proofs.Slots.{uses, number_is, NumberIs}
use Rattle.value_follows.proofs.Single.{Once, single}
use Rattle.value_follows.proofs.Jumps.{behind_it}
use Rattle.value_follows.proofs.Putting.{old_word}
use Rattle.value_follows.proofs.Comparing.{one_slot}
use Rattle.value_follows.proofs.Numbers.{begins, leads, int_moved, number_stored}
use Rattle.rows_boxes.specs.Rows.{AltersGo}
use Rattle.rows_boxes.proofs.Reading.{big_is, big_source}

-- ---- a big that becomes an int

pub ints_shorten : (m : typed.Module) (b : Base m) (into a : ℕ) → InstrGoes m (Give ty.Int (Operate (operation.Convert Big Int)) into (a ∷ []))
ints_shorten m b into a k i x p q ready here =
    single m b i p q k x ready (λ now w v r hold worlds.
    let is = r.stands.is in
    let instr = Give ty.Int (Operate (operation.Convert Big Int)) into (a ∷ []) in
    let row = code_here m now i v p q r instr here in
    let found = finds m is.function p.frame.pc is.known instr r.stands.goes row in
    let these = subst (AreThese is.known (a ∷ [])) found.2.0.0 found.1 in
    let named = uses m now i v [] p.frame q.frame is p.frame.pc instr row in
    let y = big_is m now i v [] p.frame q.frame is is.function refl a named.1.0 (λ e. e) these.0 in
    let to = number_place m.adts (types_of m is.function) into in
    let it = inst op.Cvtlw (behind (reference_place m.adts (types_of m is.function) a) 0) middle.None (own to) in
    let old = (old_word m now i v p q r into named.0 found.3).number Int refl in
    let z = wrapped Int y.number in
    number_stored m b now i w v p q r hold worlds instr here into named.0 found.3 refl it refl Int refl z (always Int y.number)
    (got_by m.adts ty.Int (Operate (operation.Convert Big Int)))
    (behind_it m b now i w v p q r hold worlds instr here 0 (suc p.frame.pc) _ (omega arith) refl)
    (ap (code.next frames_limit (program m) w p) here
    ∙ ap (λ (s : Slot). code.goes_on w p (core.put p.frame.slots into
    (Holds (fitted m.adts ty.Int (Num (wrapped Int (number_of (core.value_of s)))))))) y.holds
    ∙ ap (λ (c : ℤ). code.goes_on w p (core.put p.frame.slots into (Holds (Num c)))) (within Int z (always Int y.number)))
    (numbers_work.converts frames_limit (object_of m) v q it Big Int y.number q.frame.words to
    (leads m b now i w v p q r hold worlds instr here into named.0 found.3) old.0 refl
    (big_source m now i v p q w hold worlds [] is is.function refl a y) old.1)
    (omega arith))

-- ---- a byte or an int that is altered

-- beside which constant, and with which operator, where it isn't only moved
altered_in : (j : Kind) (u : Unary) (y : ℤ) → InRange j y → InRange j (altered j u y)
altered_in j unary.Plus y r = r
altered_in j unary.Minus y r = always j (neg_ℤ y)
altered_in j unary.Complement y r = always j (negsuc 0 -ℤ y)
altered_in j unary.Increment y r = always j (y +ℤ pos 1)
altered_in j unary.Decrement y r = always j (y -ℤ pos 1)

same_ok : (y z : ℤ) → y ≡ z → ◌≡◌ {A = Result ℤ Raised} (Ok y) (Ok z)
same_ok y z e = ap (λ (v : ℤ). Ok v) e

-- a byte beside -1, which is 255 as a byte
byte_complement : (y : ℤ) → InRange Byte y → wrapped Byte (immediate_as Byte (negsuc 0) -ℤ y) ≡ wrapped Byte (negsuc 0 -ℤ y)
byte_complement (pos n) r =
    let below = r.below in
    let few : n ≤ 255 = omega (arith, ints, below) in
    let first : pos 255 -ℤ pos n ≡ pos (255 - n) = omega (arith, ints, few) in
    let second : negsuc 0 -ℤ pos n ≡ negsuc n = omega (arith, ints) in
    let same : (255 - n) % 256 ≡ 255 - n % 256 = omega (arith, few) in
    ap (wrapped Byte) first ∙ ap pos same ∙ sym (ap (wrapped Byte) second)
byte_complement (negsuc n) r = let above = r.above in absurd (omega (arith, ints, above))

byte_decrement : (y : ℤ) → InRange Byte y → wrapped Byte (immediate_as Byte (negsuc 0) +ℤ y) ≡ wrapped Byte (y -ℤ pos 1)
byte_decrement (pos zero) r = refl
byte_decrement (pos (suc n)) r =
    let first : pos 255 +ℤ pos (suc n) ≡ pos (256 + n) = omega (arith, ints) in
    let second : pos (suc n) -ℤ pos 1 ≡ pos n = omega (arith, ints) in
    let same : (256 + n) % 256 ≡ n % 256 = omega arith in
    ap (wrapped Byte) first ∙ ap pos same ∙ sym (ap (wrapped Byte) second)
byte_decrement (negsuc n) r = let above = r.above in absurd (omega (arith, ints, above))

module _ (m : typed.Module) (b : Base m) (j : Kind) (form : form_of (of_kind j) ≡ AsNumber) (small : bytes_in j ≤ 4) (u : Unary) (into a : ℕ) where
  abbrev instr : Instr
  instr = Give (of_kind j) (Operate (operation.Alter u j)) into (a ∷ [])

  module _ (k : Facts) (i : ℕ) (w : Shared) (x : World) (p : code.Process) (q : Process) (ready : Ready m k i x p q) (hold : HoldTheSame m k i x p q)
      (worlds : (sides m).worlds k w x) (here : slice_get p.frame.code p.frame.pc ≡ Some instr) where
    abbrev place : ℕ → ℕ
    place s = number_place m.adts (types_of m ready.stands.is.function) s

    module _ (y : NumberIs m k i x [] p.frame q.frame ready.stands.is j a) (few : into < length p.frame.slots)
        (clean : IsClean (held.slot ready.stands.is.known into))
        (size : size_at m ready.stands.is.function.of.answer (of_function m ready.stands.is.function) p.frame.pc (Some instr) ≡ 1)
        (does : (sides m).program.step w p ≡ code.goes_on w p (core.put p.frame.slots into (Holds (Num (altered j u y.number))))) where
      -- beside a constant
      beside : (o : Op) (g : Operator) (n : ℤ) → number_row o ≡ Some (Calculates j g) → applied j g (immediate_as j n) y.number ≡ Ok (altered j u y.number)
          → begins m b k i w x p q ready hold worlds instr here (inst o (own (place a)) (middle.Imm n) (own (place into))) → Once m b i p q k w x
      beside o g n row e is =
          let it = inst o (own (place a)) (middle.Imm n) (own (place into)) in
          let old = (old_word m k i x p q ready into few clean).number j form in
          number_stored m b k i w x p q ready hold worlds instr here into few clean size it is j form (altered j u y.number) (altered_in j u y.number y.range)
          (got_by m.adts (of_kind j) (Operate (operation.Alter u j)))
          (behind_it m b k i w x p q ready hold worlds instr here 0 (suc p.frame.pc) _ (omega arith) refl)
          does
          (numbers_work.calculates frames_limit (object_of m) x q it j g y.number (immediate_as j n) q.frame.words (place into)
          (leads m b k i w x p q ready hold worlds instr here into few clean) old.0 (altered j u y.number) row
          (operands_are_read.source_number x q (own (place a)) q.frame.words (place a) j (spots_lead.own x q (place a)).0 ∙ y.found)
          (operands_are_read.given_middle x q j n (own (place into)) ∙ operands_are_read.middle_given x q j n) old.1 e)
          small

      -- only moved
      byte_moved : number_row op.Movb ≡ Some (Moves j) → altered j u y.number ≡ y.number
          → begins m b k i w x p q ready hold worlds instr here (inst op.Movb (own (place a)) middle.None (own (place into))) → Once m b i p q k w x
      byte_moved row e is =
          let it = inst op.Movb (own (place a)) middle.None (own (place into)) in
          let old = (old_word m k i x p q ready into few clean).number j form in
          number_stored m b k i w x p q ready hold worlds instr here into few clean size it is j form (altered j u y.number) (altered_in j u y.number y.range)
          (got_by m.adts (of_kind j) (Operate (operation.Alter u j)))
          (behind_it m b k i w x p q ready hold worlds instr here 0 (suc p.frame.pc) _ (omega arith) refl)
          does
          (numbers_work.moves frames_limit (object_of m) x q it j (altered j u y.number) q.frame.words (place into)
          (leads m b k i w x p q ready hold worlds instr here into few clean) old.0 row
          (operands_are_read.source_number x q (own (place a)) q.frame.words (place a) j (spots_lead.own x q (place a)).0 ∙ y.found
          ∙ ap (λ (z : ℤ). Found z) (sym e)) old.1)
          small

-- what the other comes to
does_alter : (m : typed.Module) (j : Kind) (u : Unary) (into a : ℕ) (w : Shared) (p : code.Process)
    → slice_get p.frame.code p.frame.pc ≡ Some (Give (of_kind j) (Operate (operation.Alter u j)) into (a ∷ []))
    → ((z : ℤ) → InRange j z → fitted m.adts (of_kind j) (Num z) ≡ Num z)
    → (y : ℤ) → InRange j y → core.slot p.frame.slots a ≡ Holds (Num y)
    → (sides m).program.step w p ≡ code.goes_on w p (core.put p.frame.slots into (Holds (Num (altered j u y))))
does_alter m j u into a w p here fits y range e =
    ap (code.next frames_limit (program m) w p) here
    ∙ ap (λ (s : Slot). code.goes_on w p (core.put p.frame.slots into
    (Holds (fitted m.adts (of_kind j) (Num (altered j u (number_of (core.value_of s)))))))) e
    ∙ ap (λ (v : Value). code.goes_on w p (core.put p.frame.slots into (Holds v))) (fits (altered j u y) (altered_in j u y range))

module _ (m : typed.Module) (b : Base m) (into a : ℕ) where
  bytes_go : (u : Unary) → InstrGoes m (instr m b Byte refl (omega arith) u into a)
  bytes_go u k i x p q ready here =
      single m b i p q k x ready (λ now w v r hold worlds.
      let is = r.stands.is in
      let it = instr m b Byte refl (omega arith) u into a in
      let row = code_here m now i v p q r it here in
      let found = finds m is.function p.frame.pc is.known it r.stands.goes row in
      let these = subst (AreThese is.known (a ∷ [])) found.2.0.0 found.1 in
      let named = uses m now i v [] p.frame q.frame is p.frame.pc it row in
      let y = number_is m now i v [] p.frame q.frame is Byte a refl named.1.0 (λ e. e) these.0 in
      go u now w v r hold worlds here y named.0 found.3
      (does_alter m Byte u into a w p here (λ z g. ap (λ (c : ℤ). Num c) (within Byte z g)) y.number y.range y.holds))
    where
      go : (u : Unary) (k : Facts) (w : Shared) (x : World) (ready : Ready m k i x p q) (hold : HoldTheSame m k i x p q) (worlds : (sides m).worlds k w x)
          (here : slice_get p.frame.code p.frame.pc ≡ Some (instr m b Byte refl (omega arith) u into a))
          (y : NumberIs m k i x [] p.frame q.frame ready.stands.is Byte a) → into < length p.frame.slots → IsClean (held.slot ready.stands.is.known into)
          → (sides m).program.step w p ≡ code.goes_on w p (core.put p.frame.slots into (Holds (Num (altered Byte u y.number)))) → Once m b i p q k w x
      go unary.Plus k w x ready hold worlds here y few clean does =
          byte_moved m b Byte refl (omega arith) unary.Plus into a k i w x p q ready hold worlds here y few clean refl does refl refl refl
      go unary.Minus k w x ready hold worlds here y few clean does =
          beside m b Byte refl (omega arith) unary.Minus into a k i w x p q ready hold worlds here y few clean refl does op.Subb operator.Subtract (pos 0) refl
          (same_ok (wrapped Byte (pos 0 -ℤ y.number)) (wrapped Byte (neg_ℤ y.number)) (ap (wrapped Byte) (omega (arith, ints)))) refl
      go unary.Complement k w x ready hold worlds here y few clean does =
          beside m b Byte refl (omega arith) unary.Complement into a k i w x p q ready hold worlds here y few clean refl does op.Subb operator.Subtract (negsuc 0) refl
          (same_ok _ _ (byte_complement y.number y.range)) refl
      go unary.Increment k w x ready hold worlds here y few clean does =
          beside m b Byte refl (omega arith) unary.Increment into a k i w x p q ready hold worlds here y few clean refl does op.Addb operator.Add (pos 1) refl
          (same_ok (wrapped Byte (pos 1 +ℤ y.number)) (wrapped Byte (y.number +ℤ pos 1)) (ap (wrapped Byte) (omega (arith, ints)))) refl
      go unary.Decrement k w x ready hold worlds here y few clean does =
          beside m b Byte refl (omega arith) unary.Decrement into a k i w x p q ready hold worlds here y few clean refl does op.Addb operator.Add (negsuc 0) refl
          (same_ok _ _ (byte_decrement y.number y.range)) refl

  ints_go : (u : Unary) → InstrGoes m (instr m b Int refl (omega arith) u into a)
  ints_go u k i x p q ready here =
      single m b i p q k x ready (λ now w v r hold worlds.
      let is = r.stands.is in
      let it = instr m b Int refl (omega arith) u into a in
      let row = code_here m now i v p q r it here in
      let found = finds m is.function p.frame.pc is.known it r.stands.goes row in
      let these = subst (AreThese is.known (a ∷ [])) found.2.0.0 found.1 in
      let named = uses m now i v [] p.frame q.frame is p.frame.pc it row in
      let y = number_is m now i v [] p.frame q.frame is Int a refl named.1.0 (λ e. e) these.0 in
      go u now w v r hold worlds here y named.0 found.3
      (does_alter m Int u into a w p here (λ z g. ap (λ (c : ℤ). Num c) (within Int z g)) y.number y.range y.holds))
    where
      go : (u : Unary) (k : Facts) (w : Shared) (x : World) (ready : Ready m k i x p q) (hold : HoldTheSame m k i x p q) (worlds : (sides m).worlds k w x)
          (here : slice_get p.frame.code p.frame.pc ≡ Some (instr m b Int refl (omega arith) u into a))
          (y : NumberIs m k i x [] p.frame q.frame ready.stands.is Int a) → into < length p.frame.slots → IsClean (held.slot ready.stands.is.known into)
          → (sides m).program.step w p ≡ code.goes_on w p (core.put p.frame.slots into (Holds (Num (altered Int u y.number)))) → Once m b i p q k w x
      go unary.Plus k w x ready hold worlds here y few clean does =
          let at = number_place m.adts (types_of m ready.stands.is.function) a in
          let plainly = operands_are_read.int_is_plain q.frame.words at y.number y.found in
          int_moved m b k i w x p q ready hold worlds (instr m b Int refl (omega arith) unary.Plus into a) here into few clean refl (own at) refl y.number
          (record {
            word = plainly.0;
            plainly = operands_are_read.source_plain_word x q (own at) q.frame.words at (spots_lead.own x q at).0 ∙ plainly.1;
            number = plainly.2;
            range = y.range;
          })
          (got_by m.adts ty.Int (Operate (operation.Alter unary.Plus Int)))
          (behind_it m b k i w x p q ready hold worlds (instr m b Int refl (omega arith) unary.Plus into a) here 0 (suc p.frame.pc) _ (omega arith) refl) does
      go unary.Minus k w x ready hold worlds here y few clean does =
          beside m b Int refl (omega arith) unary.Minus into a k i w x p q ready hold worlds here y few clean refl does op.Subw operator.Subtract (pos 0) refl
          (same_ok (wrapped Int (pos 0 -ℤ y.number)) (wrapped Int (neg_ℤ y.number)) (ap (wrapped Int) (omega (arith, ints)))) refl
      go unary.Complement k w x ready hold worlds here y few clean does =
          beside m b Int refl (omega arith) unary.Complement into a k i w x p q ready hold worlds here y few clean refl does op.Subw operator.Subtract (negsuc 0) refl
          refl refl
      go unary.Increment k w x ready hold worlds here y few clean does =
          beside m b Int refl (omega arith) unary.Increment into a k i w x p q ready hold worlds here y few clean refl does op.Addw operator.Add (pos 1) refl
          (same_ok (wrapped Int (pos 1 +ℤ y.number)) (wrapped Int (y.number +ℤ pos 1)) (ap (wrapped Int) (omega (arith, ints)))) refl
      go unary.Decrement k w x ready hold worlds here y few clean does =
          beside m b Int refl (omega arith) unary.Decrement into a k i w x p q ready hold worlds here y few clean refl does op.Addw operator.Add (negsuc 0) refl
          (same_ok (wrapped Int (negsuc 0 +ℤ y.number)) (wrapped Int (y.number -ℤ pos 1)) (ap (wrapped Int) (omega (arith, ints)))) refl

kinds_go : (m : typed.Module) (b : Base m) (u : Unary) (j : Kind) (into a : ℕ) → (j ≡ Big → ⊥)
    → InstrGoes m (Give (of_kind j) (Operate (operation.Alter u j)) into (a ∷ []))
kinds_go m b u Byte into a small = bytes_go m b into a u
kinds_go m b u Int into a small = ints_go m b into a u
kinds_go m b u Big into a small = absurd (small refl)

pub alters_go : AltersGo
alters_go m b t u j into from small k i x p q ready here =
    let it = Give t (Operate (operation.Alter u j)) into from in
    let r = ready.0 in
    let known = r.stands.is.known in
    let found = finds m r.stands.is.function p.frame.pc known it r.stands.goes (code_here m k i x p q r it here) in
    let slot = one_slot known from (of_kind j) (subst (AreThese known from) found.2.0.0 found.1) in
    kinds_go m b u j into slot.0 small k i x p q ready
    (here ∙ ap (λ (v : Ty). Some (Give v (Operate (operation.Alter u j)) into from)) found.2.0.1
    ∙ ap (λ (rs : List ℕ). Some (Give (of_kind j) (Operate (operation.Alter u j)) into rs)) slot.1)
