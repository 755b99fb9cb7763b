-- A big that becomes a byte or an int: a byte by way of an int.
use Rattle.std.proofs.Common.{◌≡◌, ℕ, ℤ, suc, pos, List, [], ◌∷◌, length, Some, refl, sym, ap, ◌∙◌, subst, arith}
use Rattle.std.specs.Prelude.{slice_get}
use Rattle.limbo_types.specs.Types as ty
use Rattle.limbo_types.specs.Types.{Ty}
use Rattle.limbo_values.specs.declared.number.Kind.{Kind}
use Rattle.limbo_values.specs.declared.number.Kind.TheVariants.{Byte, Int, Big}
use Rattle.limbo_values.specs.Numbers.{wrapped}
use Rattle.limbo_values.proofs.Ranges.{within, always}
use Rattle.limbo_values.proofs.Quotients.{keeps}
use Rattle.limbo_typed.specs.Typed as typed
use Rattle.limbo_typed.specs.Fitting.{of_kind}
use Rattle.limbo_typed.specs.declared.operation.Operation.TheVariants.{Convert}
use Rattle.limbo_meaning.specs.Process.{Shared}
use Rattle.limbo_meaning.specs.Trees.{Operate}
use Rattle.limbo_meaning.specs.Values.{Num, number_of, fitted}
use Rattle.system_model.specs.Limits.{frames_limit}
use Rattle.core_code.specs.Code.{Instr, Give}
use Rattle.core_code.specs.Machine as code
use Rattle.core_code.specs.Slots as core
use Rattle.core_code.specs.Slots.{Slot, Holds}
use Rattle.core_typing.specs.Going.{got_by}
use Rattle.core_typing.specs.Needs.{AreThese}
use Rattle.dis_isa.specs.declared.inst.Middle.TheVariants as middle
use Rattle.dis_isa.specs.declared.op.Op.TheVariants as op
use Rattle.dis_meaning.specs.Words.{Found}
use Rattle.dis_meaning.specs.Numbers.{number_at}
use Rattle.dis_meaning.specs.Process.{Process}
use Rattle.dis_memory.specs.Blocks.{World}
use Rattle.value_words.specs.Facts.{Facts}
use Rattle.value_frames.specs.Frames.{number_place, reference_place, passing_place}
use Rattle.value_moves.specs.Operands.{inst, own, behind}
use Rattle.value_moves.proofs.Leading.{spots_lead}
use Rattle.value_code.specs.Objects.{object_of}
use Rattle.number_effects.proofs.Reading.{operands_are_read}
use Rattle.number_effects.proofs.Numbers.{numbers_work}
use Rattle.value_follows.specs.Stands.{Ready, types_of}
use Rattle.value_follows.specs.Sides.{sides, program, HoldTheSame}
use Rattle.value_follows.specs.Rows.{Base, InstrGoes}
use Rattle.value_follows.proofs.Standing.{finds, code_here}
use Rattle.value_follows.proofs.Slots.{uses}
use Rattle.value_follows.proofs.Single.{Once}
use Rattle.value_follows.proofs.Several.{Next}
use Rattle.value_follows.proofs.Jumps.{behind_it}
use Rattle.value_follows.proofs.Putting.{old_word}
use Rattle.value_follows.proofs.Comparing.{one_slot}
use Rattle.rows_boxes.specs.Rows.{BigsShortenGo}
use Rattle.rows_boxes.proofs.Reading.{big_is, big_source}
use Rattle.rows_boxes.proofs.Passing.{passing_int}
use Rattle.rows_boxes.proofs.Passed.{passes, number_last, behind_first}
use Rattle.rows_boxes.proofs.Singles.{ints_shorten}

module _ (m : typed.Module) (b : Base m) (into a : ℕ) where
  abbrev instr : Instr
  instr = Give ty.Byte (Operate (Convert Big Byte)) into (a ∷ [])

  -- the int becomes a byte
  last : (k : Facts) (i : ℕ) (w : Shared) (x : World) (p : code.Process) (q : Process) (r : Ready m k i x p q) → HoldTheSame m k i x p q
      → HoldTheSame m k i x p (behind_first q q.frame.words) → (sides m).worlds k w x → slice_get p.frame.code p.frame.pc ≡ Some instr
      → (y : ℤ) → core.slot p.frame.slots a ≡ Holds (Num y) → number_at Int q.frame.words (pos passing_place) ≡ Found (wrapped Int y)
      → Once m b i p (behind_first q q.frame.words) k w x
  last k i w x p q r hold holds worlds here y is read =
      let in_code = code_here m k i x p q r instr here in
      let found = finds m r.stands.is.function p.frame.pc r.stands.is.known instr r.stands.goes in_code in
      let named = uses m k i x [] p.frame q.frame r.stands.is p.frame.pc instr in_code in
      let to = number_place m.adts (types_of m r.stands.is.function) into in
      let at = behind_first q q.frame.words in
      let it = inst op.Cvtwb (own passing_place) middle.None (own to) in
      let old = (old_word m k i x p q r into named.0 found.3).number Byte refl in
      let z = wrapped Byte (wrapped Int y) in
      number_last m b k i w x p q r hold worlds instr here refl 1 it refl refl holds into named.0 found.3 Byte refl (omega arith) z (always Byte (wrapped Int y))
      (got_by m.adts ty.Byte (Operate (Convert Big Byte)))
      (behind_it m b k i w x p q r hold worlds instr here 0 (suc p.frame.pc) _ (omega arith) refl)
      (numbers_work.converts frames_limit (object_of m) x at it Int Byte (wrapped Int y) q.frame.words to (spots_lead.own x at to).0 old.0 refl
      (operands_are_read.source_number x at (own passing_place) q.frame.words passing_place Int (spots_lead.own x at passing_place).0 ∙ read) old.1)
      (ap (code.next frames_limit (program m) w p) here
      ∙ ap (λ (s : Slot). code.goes_on w p (core.put p.frame.slots into
      (Holds (fitted m.adts ty.Byte (Num (wrapped Byte (number_of (core.value_of s)))))))) is
      ∙ ap (λ (c : ℤ). code.goes_on w p (core.put p.frame.slots into (Holds (Num c))))
      (within Byte (wrapped Byte y) (always Byte y) ∙ sym (keeps Byte Int y (omega arith))))

  first : (k : Facts) (i : ℕ) (w : Shared) (x : World) (p : code.Process) (q : Process) (r : Ready m k i x p q) → HoldTheSame m k i x p q
      → (sides m).worlds k w x → slice_get p.frame.code p.frame.pc ≡ Some instr → Next m b i p 1 k w x q
  first k i w x p q r hold worlds here =
      let is = r.stands.is in
      let in_code = code_here m k i x p q r instr here in
      let found = finds m is.function p.frame.pc is.known instr r.stands.goes in_code in
      let named = uses m k i x [] p.frame q.frame is p.frame.pc instr in_code in
      let these = subst (AreThese is.known (a ∷ [])) found.2.0.0 found.1 in
      let y = big_is m k i x [] p.frame q.frame is is.function refl a named.1.0 (λ e. e) these.0 in
      let number = y.number in
      let holds : core.slot p.frame.slots a ≡ Holds (Num number) = y.holds in
      let it = inst op.Cvtlw (behind (reference_place m.adts (types_of m is.function) a) 0) middle.None (own passing_place) in
      let old = passing_int m.adts (types_of m is.function) (length p.frame.slots) q.frame.words is.words.kind in
      let stored = numbers_work.converts frames_limit (object_of m) x q it Big Int number q.frame.words passing_place (spots_lead.own x q passing_place).0
      old.0 refl (big_source m k i x p q w hold worlds [] is is.function refl a y) old.1 in
      passes m b k i w x p q r hold worlds instr here refl it refl stored.0.others 4 (omega arith) (stored.0.changes (λ e. absurd cc))
      (stored.0.ranged (always Int number) is.words.kind.ranged) stored.1 0 (omega arith)
      (λ now v z s n h h' c. last now i v z p _ s h h' c here number holds (stored.0.there (always Int number)))

  bytes_shorten : InstrGoes m instr
  bytes_shorten k i x p q ready here =
      (1, (ready.1, λ now y w left hold worlds. first now i w y p q (b.ready_later k now i x y p q ready.0 left hold).0 hold worlds here))

kinds_go : (m : typed.Module) (b : Base m) (j : Kind) (into a : ℕ) → (j ≡ Big → ⊥) → InstrGoes m (Give (of_kind j) (Operate (Convert Big j)) into (a ∷ []))
kinds_go m b Byte into a small = bytes_shorten m b into a
kinds_go m b Int into a small = ints_shorten m b into a
kinds_go m b Big into a small = absurd (small refl)

pub bigs_shorten_go : BigsShortenGo
bigs_shorten_go m b t j into from small k i x p q ready here =
    let it = Give t (Operate (Convert Big j)) into from in
    let r = ready.0 in
    let known = r.stands.is.known in
    let found = finds m r.stands.is.function p.frame.pc known it r.stands.goes (code_here m k i x p q r it here) in
    let slot = one_slot known from ty.Big (subst (AreThese known from) found.2.0.0 found.1) in
    kinds_go m b j into slot.0 small k i x p q ready
    (here ∙ ap (λ (v : Ty). Some (Give v (Operate (Convert Big j)) into from)) found.2.0.1
    ∙ ap (λ (rs : List ℕ). Some (Give (of_kind j) (Operate (Convert Big j)) into rs)) slot.1)
