-- Bytes and ints as strings. A byte becomes an int on the way.
use Rattle.std.proofs.Common.{◌≡◌, ℕ, ℤ, suc, pos, List, [], ◌∷◌, Some, Ok, refl, ap, ◌∙◌, subst, arith}
use Rattle.std.specs.Prelude.{slice_get}
use Rattle.std.proofs.lemmas.Int.{ints}
use Rattle.limbo_types.specs.Types as ty
use Rattle.limbo_types.specs.Types.{Ty}
use Rattle.limbo_values.specs.declared.number.Kind.{Kind}
use Rattle.limbo_values.specs.declared.number.Kind.TheVariants.{Byte, Int, Big}
use Rattle.limbo_values.specs.Conversions.{number_text}
use Rattle.limbo_values.specs.Numbers.{InRange, wrapped}
use Rattle.limbo_values.proofs.Ranges.{within, always}
use Rattle.limbo_typed.specs.Typed as typed
use Rattle.limbo_typed.specs.Fitting.{of_kind}
use Rattle.limbo_typed.specs.declared.operation.Operation.TheVariants.{NumberText}
use Rattle.limbo_meaning.specs.Process.{Shared}
use Rattle.limbo_meaning.specs.Trees.{Operate}
use Rattle.limbo_meaning.specs.Values.{Num, number_of}
use Rattle.system_model.specs.Limits.{frames_limit}
use Rattle.core_code.specs.Code.{Instr, Give}
use Rattle.core_code.specs.Machine as code
use Rattle.core_code.specs.Slots as core
use Rattle.core_code.specs.Slots.{Holds}
use Rattle.core_typing.specs.Needs.{AreThese}
use Rattle.core_typing.specs.Going.{got_by}
use Rattle.dis_isa.specs.declared.inst.Inst.{Inst}
use Rattle.dis_isa.specs.declared.inst.Operand as isa
use Rattle.dis_isa.specs.declared.inst.Middle.TheVariants as middle
use Rattle.dis_isa.specs.declared.op.Op.TheVariants as op
use Rattle.dis_meaning.specs.Words.{Found}
use Rattle.dis_meaning.specs.Numbers.{number_at}
use Rattle.dis_meaning.specs.Process.{Process}
use Rattle.dis_memory.specs.Blocks.{World}
use Rattle.dis_memory.specs.Places.{source_of}
use Rattle.value_words.specs.Facts.{Facts}
use Rattle.value_frames.specs.Frames.{number_place, reference_place, passing_place}
use Rattle.value_moves.specs.Operands.{inst, own}
use Rattle.value_moves.proofs.Leading.{spots_lead}
use Rattle.value_code.specs.Objects.{object_of, of_function, size_at}
use Rattle.value_code.specs.Code.{code_of}
use Rattle.number_effects.proofs.Numbers.{numbers_work}
use Rattle.block_effects.proofs.Giving.{operands_read}
use Rattle.block_effects.proofs.Strings.{strings_come}
use Rattle.value_follows.specs.Stands.{types_of}
use Rattle.value_follows.specs.Sides.{sides, HoldTheSame, program}
use Rattle.value_follows.specs.Rows.{Base, InstrGoes, site_of}
use Rattle.value_follows.proofs.Standing.{finds, code_here}
use Rattle.value_follows.proofs.Single.{Once}
use Rattle.value_follows.proofs.Several.{Next}
use Rattle.value_follows.proofs.Comparing.{one_slot}
use Rattle.rows_texts.specs.Rows.{NumberTextsGo}
use Rattle.rows_texts.proofs.OnTheWay.{On, reaches_it, row_here, on_ready, on_way}
use Rattle.rows_texts.proofs.Coming.{reference_there}
use Rattle.rows_texts.proofs.Passing.{passing_old, number_passes}
use Rattle.rows_texts.proofs.Reading.{number_on}
use Rattle.rows_texts.proofs.Strings.{number_string}
use Rattle.rows_texts.proofs.Texts.{used, found, rests, next_on, goes_on_behind, one_goes, string_comes, text_comes}

-- a byte is an int
pub byte_range : (z : ℤ) → InRange Byte z → InRange Int z
byte_range z r = let a = r.above in let b = r.below in record { above = omega (arith, ints, a); below = omega (arith, ints, b) }

module _ (m : typed.Module) (b : Base m) (u : Kind) (into a : ℕ) where
  abbrev instr : Instr
  instr = Give ty.Chars (Operate (NumberText u)) into (a ∷ [])

  module _ (k : Facts) (i : ℕ) (w : Shared) (x : World) (n : ℕ) (f : typed.Function) (j : ℕ) (p : code.Process) (q : Process)
      (on : On m k i x [] n f j p q) (hold : HoldTheSame m k i x p q) (worlds : (sides m).worlds k w x)
      (here : slice_get p.frame.code p.frame.pc ≡ Some instr) where
    -- the last instruction, which reads an int
    abbrev last : isa.Operand → Inst
    last o = inst op.Cvtwc o middle.None (own (reference_place m.adts (types_of m f) into))

    tells : (o : isa.Operand) (z : ℤ) → InRange Int z → source_of Int x q o ≡ Found z → core.slot p.frame.slots a ≡ Holds (Num z)
        → slice_get (code_of (site_of m n f p.frame.pc (row_here m b i p q [] n f j k w x on hold worlds instr here).at) instr) j ≡ Some (last o)
        → size_at m f.of.answer (of_function m f) p.frame.pc (Some instr) ≡ suc j
        → Once m b i p q k w x
    tells o z range read holds is size =
        let there = used m k i x [] n f j p q on instr here in
        let needs = found m k i x [] n f j p q on instr here in
        let rest = rests m k i x n f j p q on into there.0 needs.3 in
        let dest = reference_there m b k i w x [] n f j p q on hold worlds into there.0 refl rest.0 rest.1 in
        text_comes m b k i w x [] n f j p q on hold worlds into there.0 refl rest.0 rest.1 (last o)
        (reaches_it m b i p q [] n f j k w x on hold worlds instr here (last o) is)
        (got_by m.adts ty.Chars (Operate (NumberText u)))
        (next_on m k i x [] n f j p q on instr here (suc j) size refl)
        (goes_on_behind m k i x [] n f j p q on instr here 0 (suc p.frame.pc) _ (omega arith) refl)
        (number_text z) (number_string z range)
        ((strings_come frames_limit (object_of m) x q).convert.of_int o (own (reference_place m.adts (types_of m f) into)) middle.None z dest read)
        (NumberText u)
        (ap (code.next frames_limit (program m) w p) here
        ∙ ap (λ (v : core.Slot). string_comes m b k i w x [] n f j p q on hold worlds into there.0 refl rest.0 rest.1 (NumberText u)
        (Ok (number_text (number_of (core.value_of v))))) holds)

ints_go : (m : typed.Module) (b : Base m) (into a : ℕ) → InstrGoes m (instr m b Int into a)
ints_go m b into a k i x p q ready here =
    let n = ready.0.stands.is.number in
    let f = ready.0.stands.is.function in
    one_goes m b i p q k x ready (λ now w y on hold worlds.
    let it = instr m b Int into a in
    let there = used m now i y [] n f 0 p q on it here in
    let needs = found m now i y [] n f 0 p q on it here in
    let z = number_on m now i y [] n f 0 p q on Int a refl there.1.0 (λ e. e) (subst (AreThese on.known (a ∷ [])) needs.2.0.0 needs.1).0 in
    let at = number_place m.adts (types_of m f) a in
    tells m b Int into a now i w y n f 0 p q on hold worlds here (own at) z.number z.range
    ((operands_read y q).number Int (own at) q.frame.words at z.number (spots_lead.own y q at).0 z.found)
    z.holds refl refl)

-- ---- a byte

module _ (m : typed.Module) (b : Base m) (into a : ℕ) (i : ℕ) (p : code.Process) (n : ℕ) (f : typed.Function)
    (here : slice_get p.frame.code p.frame.pc ≡ Some (instr m b Byte into a)) where
  -- once it is an int, on its way
  second : (k : Facts) (w : Shared) (x : World) (q : Process) → (on : On m k i x [] n f 1 p q) → HoldTheSame m k i x p q → (sides m).worlds k w x
      → (z : ℤ) → InRange Int z → number_at Int q.frame.words (pos passing_place) ≡ Found z → core.slot p.frame.slots a ≡ Holds (Num z) → Once m b i p q k w x
  second k w x q on hold worlds z range passing holds =
      tells m b Byte into a k i w x n f 1 p q on hold worlds here (own passing_place) z range
      ((operands_read x q).number Int (own passing_place) q.frame.words passing_place z (spots_lead.own x q passing_place).0 passing)
      holds refl refl

  first : (k : Facts) (w : Shared) (x : World) (q : Process) → (on : On m k i x [] n f 0 p q) → HoldTheSame m k i x p q → (sides m).worlds k w x
      → Next m b i p 1 k w x q
  first k w x q on hold worlds =
      let it = instr m b Byte into a in
      let there = used m k i x [] n f 0 p q on it here in
      let needs = found m k i x [] n f 0 p q on it here in
      let y = number_on m k i x [] n f 0 p q on Byte a refl there.1.0 (λ e. e) (subst (AreThese on.known (a ∷ [])) needs.2.0.0 needs.1).0 in
      let z = y.number in
      let holds : core.slot p.frame.slots a ≡ Holds (Num z) = y.holds in
      let at = number_place m.adts (types_of m f) a in
      let inst = inst op.Cvtbw (own at) middle.None (own passing_place) in
      let old = passing_old m k i x n f 0 p q on in
      let range = byte_range z y.range in
      let whole : wrapped Int z ≡ z = within Int z range in
      number_passes m b i p n f k w x 0 q on hold worlds it here refl (omega arith) inst
      (reaches_it m b i p q [] n f 0 k w x on hold worlds it here inst refl)
      (wrapped Int z) (always Int z)
      (numbers_work.converts frames_limit (object_of m) x q inst Byte Int z q.frame.words passing_place (spots_lead.own x q passing_place).0 old.0 refl
      ((operands_read x q).number Byte (own at) q.frame.words at z (spots_lead.own x q at).0 y.found) old.1)
      1
      (λ r after passing hold'. on_way m b i p r [] n f 1 0 k x after hold' (λ now v y grows on' hold'' worlds'.
      second now v y r on' hold'' worlds' z range (passing ∙ ap (λ (o : ℤ). Found o) whole) holds))

bytes_go : (m : typed.Module) (b : Base m) (into a : ℕ) → InstrGoes m (instr m b Byte into a)
bytes_go m b into a k i x p q ready here =
    let n = ready.0.stands.is.number in
    let f = ready.0.stands.is.function in (
      1,
      on_way m b i p q [] n f 0 1 k x (on_ready m i p q k x ready.0) ready.1
          (λ now w y grows on hold worlds. first m b into a i p n f here now w y q on hold worlds),
    )

kinds_go : (m : typed.Module) (b : Base m) (u : Kind) (into a : ℕ) → (u ≡ Big → ⊥) → InstrGoes m (Give ty.Chars (Operate (NumberText u)) into (a ∷ []))
kinds_go m b Byte into a small = bytes_go m b into a
kinds_go m b Int into a small = ints_go m b into a
kinds_go m b Big into a small = absurd (small refl)

pub number_texts_go : NumberTextsGo
number_texts_go m b t u into from small k i x p q ready here =
    let it = Give t (Operate (NumberText u)) into from in
    let r = ready.0 in
    let known = r.stands.is.known in
    let found = finds m r.stands.is.function p.frame.pc known it r.stands.goes (code_here m k i x p q r it here) in
    let slot = one_slot known from (of_kind u) (subst (AreThese known from) found.2.0.0 found.1) in
    kinds_go m b u into slot.0 small k i x p q ready
    (here ∙ ap (λ (v : Ty). Some (Give v (Operate (NumberText u)) into from)) found.2.0.1
    ∙ ap (λ (rs : List ℕ). Some (Give ty.Chars (Operate (NumberText u)) into rs)) slot.1)
