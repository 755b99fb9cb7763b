-- The byte or the int that a string begins with. A byte is an int on the way.
use Rattle.std.proofs.Common.{◌≡◌, ℕ, ℤ, suc, pos, List, [], ◌∷◌, Some, refl, sym, ap, ◌∙◌, subst, arith}
use Rattle.std.specs.Prelude.{slice_get}
use Rattle.limbo_types.specs.Types as ty
use Rattle.limbo_types.specs.Types.{Ty}
use Rattle.limbo_values.specs.declared.number.Kind.{Kind}
use Rattle.limbo_values.specs.declared.number.Kind.TheVariants.{Byte, Int, Big}
use Rattle.limbo_values.specs.Conversions.{number_in, number_read}
use Rattle.limbo_values.specs.Numbers.{wrapped}
use Rattle.limbo_values.proofs.Ranges.{within, always}
use Rattle.limbo_values.proofs.Quotients.{keeps}
use Rattle.limbo_typed.specs.Typed as typed
use Rattle.limbo_typed.specs.Fitting.{of_kind}
use Rattle.limbo_typed.specs.declared.operation.Operation.TheVariants.{ReadNumber}
use Rattle.limbo_meaning.specs.Process.{Shared}
use Rattle.limbo_meaning.specs.Trees.{Operate}
use Rattle.limbo_meaning.specs.Values.{Num, Chars, text_of, fitted}
use Rattle.system_model.specs.Limits.{frames_limit}
use Rattle.core_code.specs.Code.{Instr, Give}
use Rattle.core_code.specs.Machine as code
use Rattle.core_code.specs.Slots as core
use Rattle.core_code.specs.Slots.{Holds}
use Rattle.core_typing.specs.Needs.{AreThese}
use Rattle.core_typing.specs.Going.{got_by}
use Rattle.dis_isa.specs.declared.inst.Middle.TheVariants as middle
use Rattle.dis_isa.specs.declared.op.Op.TheVariants as op
use Rattle.dis_meaning.specs.Words.{Found}
use Rattle.dis_meaning.specs.Numbers.{number_at}
use Rattle.dis_meaning.specs.Process.{Process}
use Rattle.dis_memory.specs.Blocks.{World}
use Rattle.value_words.specs.Facts.{Facts}
use Rattle.value_frames.specs.Frames.{number_place, reference_place, passing_place}
use Rattle.value_moves.specs.Operands.{inst, own}
use Rattle.value_moves.proofs.Leading.{spots_lead}
use Rattle.value_code.specs.Objects.{object_of}
use Rattle.number_effects.proofs.Numbers.{numbers_work}
use Rattle.block_effects.proofs.Giving.{operands_read}
use Rattle.block_effects.proofs.Strings.{strings_come}
use Rattle.value_follows.specs.Stands.{types_of}
use Rattle.value_follows.specs.Sides.{sides, HoldTheSame, program}
use Rattle.value_follows.specs.Rows.{Base, InstrGoes}
use Rattle.value_follows.proofs.Standing.{finds, code_here}
use Rattle.value_follows.proofs.Single.{Once}
use Rattle.value_follows.proofs.Several.{Next}
use Rattle.value_follows.proofs.Comparing.{one_slot}
use Rattle.rows_texts.specs.Rows.{ReadingsGo}
use Rattle.rows_texts.proofs.OnTheWay.{On, reaches_it, on_ready, on_way}
use Rattle.rows_texts.proofs.Numbers.{number_there, number_stored, old_number, number_comes}
use Rattle.rows_texts.proofs.Passing.{passing_there, passing_stored, number_passes}
use Rattle.rows_texts.proofs.Reading.{text_is, reads_text}
use Rattle.rows_texts.proofs.Texts.{used, found, next_on, goes_on_behind, one_goes}

abbrev instr : Kind → (into a : ℕ) → Instr
instr u into a = Give (of_kind u) (Operate (ReadNumber u)) into (a ∷ [])

-- ---- an int

ints_read : (m : typed.Module) (b : Base m) (into a : ℕ) (k : Facts) (i : ℕ) (w : Shared) (x : World) (n : ℕ) (f : typed.Function) (p : code.Process) (q : Process)
    → (on : On m k i x [] n f 0 p q) → HoldTheSame m k i x p q → (sides m).worlds k w x → slice_get p.frame.code p.frame.pc ≡ Some (instr Int into a)
    → Once m b i p q k w x
ints_read m b into a k i w x n f p q on hold worlds here =
    let it = instr Int into a in
    let there = used m k i x [] n f 0 p q on it here in
    let needs = found m k i x [] n f 0 p q on it here in
    let s = text_is m k i x [] n f 0 p q on a there.1.0 (λ e. e) (subst (AreThese on.known (a ∷ [])) needs.2.0.0 needs.1).0 in
    let at = reference_place m.adts (types_of m f) a in
    let to = number_place m.adts (types_of m f) into in
    let inst = inst op.Cvtcw (own at) middle.None (own to) in
    let z = number_read Int s.chars in
    let range = always Int (number_in s.chars) in
    let stored = number_stored m k i x n f 0 p q on into there.0 needs.3 Int refl z in
    number_comes m k i x n f 0 p q on into there.0 needs.3 b w hold worlds inst
    (reaches_it m b i p q [] n f 0 k w x on hold worlds it here inst refl)
    Int refl (omega arith) z range (got_by m.adts ty.Int (Operate (ReadNumber Int)))
    (next_on m k i x [] n f 0 p q on it here 1 refl refl)
    (goes_on_behind m k i x [] n f 0 p q on it here 0 (suc p.frame.pc) _ (omega arith) refl) (
      stored,
      (strings_come frames_limit (object_of m) x q).convert.as_int (own at) (own to) middle.None s.chars stored.others
          (number_there m k i x n f 0 p q on into there.0 needs.3 Int refl)
          (reads_text m k i w x p q hold worlds [] n f 0 on a s) stored.found,
    )
    (ap (code.next frames_limit (program m) w p) here
    ∙ ap (λ (v : core.Slot). code.goes_on w p (core.put p.frame.slots into (Holds (fitted m.adts ty.Int (Num (number_read Int (text_of (core.value_of v)))))))) s.holds
    ∙ ap (λ (y : ℤ). code.goes_on w p (core.put p.frame.slots into (Holds (Num y)))) (within Int z range))

ints_go : (m : typed.Module) (b : Base m) (into a : ℕ) → InstrGoes m (instr Int into a)
ints_go m b into a k i x p q ready here =
    one_goes m b i p q k x ready (λ now w y on hold worlds.
    ints_read m b into a now i w y ready.0.stands.is.number ready.0.stands.is.function p q on hold worlds here)

-- ---- a byte

module _ (m : typed.Module) (b : Base m) (into a : ℕ) (i : ℕ) (p : code.Process) (n : ℕ) (f : typed.Function)
    (here : slice_get p.frame.code p.frame.pc ≡ Some (instr Byte into a)) where
  -- once it is an int, on its way
  second : (k : Facts) (w : Shared) (x : World) (q : Process) → (on : On m k i x [] n f 1 p q) → HoldTheSame m k i x p q → (sides m).worlds k w x
      → (s : List ℕ) → number_at Int q.frame.words (pos passing_place) ≡ Found (number_read Int s) → core.slot p.frame.slots a ≡ Holds (Chars s)
      → Once m b i p q k w x
  second k w x q on hold worlds s passing holds =
      let it = instr Byte into a in
      let there = used m k i x [] n f 1 p q on it here in
      let needs = found m k i x [] n f 1 p q on it here in
      let to = number_place m.adts (types_of m f) into in
      let inst = inst op.Cvtwb (own passing_place) middle.None (own to) in
      let z = wrapped Byte (number_read Int s) in
      let old = old_number m k i x n f 1 p q on into there.0 needs.3 Byte refl in
      number_comes m k i x n f 1 p q on into there.0 needs.3 b w hold worlds inst
      (reaches_it m b i p q [] n f 1 k w x on hold worlds it here inst refl)
      Byte refl (omega arith) z (always Byte (number_read Int s)) (got_by m.adts ty.Byte (Operate (ReadNumber Byte)))
      (next_on m k i x [] n f 1 p q on it here 2 refl refl)
      (goes_on_behind m k i x [] n f 1 p q on it here 0 (suc p.frame.pc) _ (omega arith) refl)
      (numbers_work.converts frames_limit (object_of m) x q inst Int Byte (number_read Int s) q.frame.words to (spots_lead.own x q to).0 old.0 refl
      ((operands_read x q).number Int (own passing_place) q.frame.words passing_place (number_read Int s) (spots_lead.own x q passing_place).0 passing)
      old.1)
      (ap (code.next frames_limit (program m) w p) here
      ∙ ap (λ (v : core.Slot). code.goes_on w p (core.put p.frame.slots into (Holds (fitted m.adts ty.Byte (Num (number_read Byte (text_of (core.value_of v)))))))) holds
      ∙ ap (λ (y : ℤ). code.goes_on w p (core.put p.frame.slots into (Holds (Num y))))
      (within Byte (number_read Byte s) (always Byte (number_in s)) ∙ sym (keeps Byte Int (number_in s) (omega arith))))

  first : (k : Facts) (w : Shared) (x : World) (q : Process) → (on : On m k i x [] n f 0 p q) → HoldTheSame m k i x p q → (sides m).worlds k w x
      → Next m b i p 1 k w x q
  first k w x q on hold worlds =
      let it = instr Byte into a in
      let there = used m k i x [] n f 0 p q on it here in
      let needs = found m k i x [] n f 0 p q on it here in
      let s = text_is m k i x [] n f 0 p q on a there.1.0 (λ e. e) (subst (AreThese on.known (a ∷ [])) needs.2.0.0 needs.1).0 in
      let chars = s.chars in
      let holds : core.slot p.frame.slots a ≡ Holds (Chars chars) = s.holds in
      let at = reference_place m.adts (types_of m f) a in
      let inst = inst op.Cvtcw (own at) middle.None (own passing_place) in
      let z = number_read Int chars in
      let stored = passing_stored m k i x n f 0 p q on z in
      number_passes m b i p n f k w x 0 q on hold worlds it here refl (omega arith) inst
      (reaches_it m b i p q [] n f 0 k w x on hold worlds it here inst refl) z (always Int (number_in chars)) (
        stored,
        (strings_come frames_limit (object_of m) x q).convert.as_int (own at) (own passing_place) middle.None chars stored.others
            (passing_there m k i x n f 0 p q on) (reads_text m k i w x p q hold worlds [] n f 0 on a s) stored.found,
      )
      1
      (λ r after passing hold'. on_way m b i p r [] n f 1 0 k x after hold' (λ now v y grows on' hold'' worlds'.
      second now v y r on' hold'' worlds' chars passing holds))

bytes_go : (m : typed.Module) (b : Base m) (into a : ℕ) → InstrGoes m (instr Byte into a)
bytes_go m b into a k i x p q ready here =
    let n = ready.0.stands.is.number in
    let f = ready.0.stands.is.function in (
      1,
      on_way m b i p q [] n f 0 1 k x (on_ready m i p q k x ready.0) ready.1
          (λ now w y grows on hold worlds. first m b into a i p n f here now w y q on hold worlds),
    )

kinds_go : (m : typed.Module) (b : Base m) (u : Kind) (into a : ℕ) → (u ≡ Big → ⊥) → InstrGoes m (instr u into a)
kinds_go m b Byte into a small = bytes_go m b into a
kinds_go m b Int into a small = ints_go m b into a
kinds_go m b Big into a small = absurd (small refl)

pub readings_go : ReadingsGo
readings_go m b t u into from small k i x p q ready here =
    let it = Give t (Operate (ReadNumber u)) into from in
    let r = ready.0 in
    let known = r.stands.is.known in
    let found = finds m r.stands.is.function p.frame.pc known it r.stands.goes (code_here m k i x p q r it here) in
    let slot = one_slot known from ty.Chars (subst (AreThese known from) found.2.0.0 found.1) in
    kinds_go m b u into slot.0 small k i x p q ready
    (here ∙ ap (λ (v : Ty). Some (Give v (Operate (ReadNumber u)) into from)) found.2.0.1
    ∙ ap (λ (rs : List ℕ). Some (Give (of_kind u) (Operate (ReadNumber u)) into rs)) slot.1)
