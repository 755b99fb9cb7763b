-- Slices of strings, by the bounds that are written.
use Rattle.std.proofs.Common.{◌≡◌, ℕ, Bool, true, false, suc, pos, ◌<◌, List, [], ◌∷◌, length, Some, refl, ap, ◌∙◌, subst, arith, inl, inr}
use Rattle.std.specs.Prelude.{slice_get}
use Rattle.limbo_types.specs.Types as ty
use Rattle.limbo_types.specs.Types.{Ty}
use Rattle.limbo_values.specs.declared.number.Kind.TheVariants.{Int}
use Rattle.limbo_values.specs.Texts.{slice_in}
use Rattle.limbo_typed.specs.Typed as typed
use Rattle.limbo_typed.specs.declared.operation.Operation.TheVariants.{Slice}
use Rattle.limbo_typed.specs.declared.operation.Sequence.TheVariants as sequence
use Rattle.limbo_meaning.specs.Exceptions.{with_text}
use Rattle.limbo_meaning.specs.Process.{Shared}
use Rattle.limbo_meaning.specs.Trees.{Operate}
use Rattle.limbo_meaning.specs.Values.{Chars, text_of, number_of}
use Rattle.system_model.specs.Limits.{frames_limit}
use Rattle.core_code.specs.Code.{Instr, Give}
use Rattle.core_code.specs.Machine as code
use Rattle.core_code.specs.Slots as core
use Rattle.core_code.specs.Slots.{Holds}
use Rattle.core_typing.specs.Held as held
use Rattle.core_typing.specs.Needs.{AreThese}
use Rattle.dis_isa.specs.declared.inst.Middle.TheVariants as middle
use Rattle.dis_isa.specs.declared.op.Op.TheVariants as op
use Rattle.dis_meaning.specs.Words.{Found}
use Rattle.dis_meaning.specs.Numbers.{number_at}
use Rattle.dis_meaning.specs.Process.{Process}
use Rattle.dis_memory.specs.Blocks.{World}
use Rattle.value_words.specs.Facts.{Facts}
use Rattle.value_frames.specs.Frames.{number_place, reference_place, passing_place}
use Rattle.value_moves.specs.Operands.{inst, own}
use Rattle.value_moves.proofs.Changing.{low_or_high}
use Rattle.value_code.specs.Objects.{object_of}
use Rattle.block_effects.proofs.Strings.{strings_come}
use Rattle.value_code.specs.Code.{code_of}
use Rattle.value_follows.specs.Stands.{types_of, Ready}
use Rattle.value_follows.specs.Sides.{sides, HoldTheSame, program}
use Rattle.value_follows.specs.Rows.{Base, InstrGoes, row_of, site_of}
use Rattle.value_follows.proofs.Standing.{finds, code_here}
use Rattle.value_follows.proofs.Several.{Next}
use Rattle.value_follows.proofs.Comparing.{one_slot}
use Rattle.value_follows.proofs.Arithmetic.{two_slots}
use Rattle.rows_texts.specs.Rows.{SlicesGo}
use Rattle.rows_texts.proofs.OnTheWay.{On, row_here, reaches_it, on_ready, on_way}
use Rattle.rows_texts.proofs.Lengths.{is_chars, length_range}
use Rattle.rows_texts.proofs.Passing.{passing_there, passing_stored, number_passes}
use Rattle.rows_texts.proofs.Reading.{text_is, number_on, reads_text}
use Rattle.rows_texts.proofs.Slices.{IsApart, comes, whole_comes}
use Rattle.rows_texts.proofs.Texts.{used, found}

abbrev instr : Bool → Bool → (into : ℕ) → List ℕ → Instr
instr lo hi into from = Give ty.Chars (Operate (Slice sequence.Chars lo hi)) into from

number_apart : (m : typed.Module) (f : typed.Function) (c into : ℕ) → IsApart (number_place m.adts (types_of m f) c) (reference_place m.adts (types_of m f) into)
number_apart m f c into = elim (low_or_high c (suc into)) [
  | inl low ↦ inl (omega (arith, low))
  | inr high ↦ inr (omega (arith, high))
]

passing_apart : (m : typed.Module) (f : typed.Function) (into : ℕ) → IsApart passing_place (reference_place m.adts (types_of m f) into)
passing_apart m f into = inl (omega arith)

-- ---- where the bound behind is written

both_go : (m : typed.Module) (b : Base m) (into a c d : ℕ) → InstrGoes m (instr true true into (a ∷ c ∷ d ∷ []))
both_go m b into a c d k i x p q ready here =
    let n = ready.0.stands.is.number in
    let f = ready.0.stands.is.function in
    let it = instr true true into (a ∷ c ∷ d ∷ []) in (
      1,
      on_way m b i p q [] n f 0 1 k x (on_ready m i p q k x ready.0) ready.1 (λ now w y grows on hold worlds.
          let there = used m now i y [] n f 0 p q on it here in
          let needs = found m now i y [] n f 0 p q on it here in
          let these = subst (AreThese on.known (a ∷ c ∷ d ∷ [])) needs.2.0.1 needs.1 in
          let s = text_is m now i y [] n f 0 p q on a there.1.0 (λ e. e) these.0 in
          let low = number_on m now i y [] n f 0 p q on Int c refl there.1.1.0 (λ e. e) these.1.0 in
          let high = number_on m now i y [] n f 0 p q on Int d refl there.1.1.1.0 (λ e. e) these.1.1.0 in
          whole_comes m b true true into a (c ∷ d ∷ []) i p n f here 0 (number_place m.adts (types_of m f) c) (number_place m.adts (types_of m f) d)
          s.chars low.number high.number s.holds
          (λ w. ap (code.next frames_limit (program m) w p) here
          ∙ ap (λ (v : core.Slot). comes m b true true into a (c ∷ d ∷ []) i p n f w (with_text (slice_in (text_of (core.value_of v))
          (number_of (core.value_of (core.slot p.frame.slots c))) (number_of (core.value_of (core.slot p.frame.slots d)))))) s.holds
          ∙ ap (λ (v : core.Slot). comes m b true true into a (c ∷ d ∷ []) i p n f w (with_text (slice_in s.chars
          (number_of (core.value_of v)) (number_of (core.value_of (core.slot p.frame.slots d)))))) low.holds
          ∙ ap (λ (v : core.Slot). comes m b true true into a (c ∷ d ∷ []) i p n f w (with_text (slice_in s.chars low.number (number_of (core.value_of v))))) high.holds)
          (λ g. refl) refl (λ g. refl) now w y q on hold worlds
          (number_apart m f c into) (number_apart m f d into) low.found high.found these.0),
    )

to_go : (m : typed.Module) (b : Base m) (into a c : ℕ) → InstrGoes m (instr false true into (a ∷ c ∷ []))
to_go m b into a c k i x p q ready here =
    let n = ready.0.stands.is.number in
    let f = ready.0.stands.is.function in
    let it = instr false true into (a ∷ c ∷ []) in (
      1,
      on_way m b i p q [] n f 0 1 k x (on_ready m i p q k x ready.0) ready.1 (λ now w y grows on hold worlds.
          let there = used m now i y [] n f 0 p q on it here in
          let needs = found m now i y [] n f 0 p q on it here in
          let these = subst (AreThese on.known (a ∷ c ∷ [])) needs.2.0.1 needs.1 in
          let s = text_is m now i y [] n f 0 p q on a there.1.0 (λ e. e) these.0 in
          let high = number_on m now i y [] n f 0 p q on Int c refl there.1.1.0 (λ e. e) these.1.0 in
          whole_comes m b false true into a (c ∷ []) i p n f here 0 passing_place (number_place m.adts (types_of m f) c)
          s.chars (pos 0) high.number s.holds
          (λ w. ap (code.next frames_limit (program m) w p) here
          ∙ ap (λ (v : core.Slot). comes m b false true into a (c ∷ []) i p n f w (with_text (slice_in (text_of (core.value_of v)) (pos 0)
          (number_of (core.value_of (core.slot p.frame.slots c)))))) s.holds
          ∙ ap (λ (v : core.Slot). comes m b false true into a (c ∷ []) i p n f w (with_text (slice_in s.chars (pos 0) (number_of (core.value_of v))))) high.holds)
          (λ g. refl) refl (λ g. refl) now w y q on hold worlds
          (passing_apart m f into) (number_apart m f c into) refl high.found these.0),
    )

-- ---- where it isn't

module _ (m : typed.Module) (b : Base m) (lo : Bool) (into a : ℕ) (rest : List ℕ) (i : ℕ) (p : code.Process) (n : ℕ) (f : typed.Function)
    (here : slice_get p.frame.code p.frame.pc ≡ Some (instr lo false into (a ∷ rest))) where
  -- what goes on once the length is on its way
  abbrev Goes : List ℕ → Type 0
  Goes s = (k : Facts) (w : Shared) (x : World) (q : Process) → On m k i x [] n f 1 p q → HoldTheSame m k i x p q → (sides m).worlds k w x
      → number_at Int q.frame.words (pos passing_place) ≡ Found (pos (length s)) → Next m b i p 1 k w x q

  looks_up : ((g : ℕ) → slice_get (code_of (site_of m n f p.frame.pc g) (instr lo false into (a ∷ rest))) 0
      ≡ Some (inst op.Lenc (own (reference_place m.adts (types_of m f) a)) middle.None (own passing_place)))
      → 1 < (row_of m f p.frame.pc (instr lo false into (a ∷ rest))).size
      → ((s : List ℕ) → core.slot p.frame.slots a ≡ Holds (Chars s) → Goes s)
      → (k : Facts) (w : Shared) (x : World) (q : Process) → On m k i x [] n f 0 p q → HoldTheSame m k i x p q → (sides m).worlds k w x
      → Next m b i p 2 k w x q
  looks_up is size goes k w x q on hold worlds =
      let it = instr lo false into (a ∷ rest) in
      let there = used m k i x [] n f 0 p q on it here in
      let needs = found m k i x [] n f 0 p q on it here in
      let these = subst (AreThese on.known (a ∷ rest)) needs.2.0.1 needs.1 in
      let s = text_is m k i x [] n f 0 p q on a there.1.0 (λ e. e) these.0 in
      let chars = s.chars in
      let holds : core.slot p.frame.slots a ≡ Holds (Chars chars) = s.holds in
      let at = reference_place m.adts (types_of m f) a in
      let inst = inst op.Lenc (own at) middle.None (own passing_place) in
      let z = pos (length chars) in
      let stored = passing_stored m k i x n f 0 p q on z in
      number_passes m b i p n f k w x 0 q on hold worlds it here refl size inst
      (reaches_it m b i p q [] n f 0 k w x on hold worlds it here inst (is (row_here m b i p q [] n f 0 k w x on hold worlds it here).at))
      z (length_range chars s.string) (
        stored,
        (strings_come frames_limit (object_of m) x q).read.long (own at) (own passing_place) middle.None chars stored.others
            (passing_there m k i x n f 0 p q on) (reads_text m k i w x p q hold worlds [] n f 0 on a s) stored.found,
      )
      2
      (λ r after passing hold'. on_way m b i p r [] n f 1 1 k x after hold' (λ now v y grows on' hold'' worlds'.
      goes chars holds now v y r on' hold'' worlds' passing))

from_go : (m : typed.Module) (b : Base m) (into a c : ℕ) → InstrGoes m (instr true false into (a ∷ c ∷ []))
from_go m b into a c k i x p q ready here =
    let n = ready.0.stands.is.number in
    let f = ready.0.stands.is.function in
    let it = instr true false into (a ∷ c ∷ []) in (
      2,
      on_way m b i p q [] n f 0 2 k x (on_ready m i p q k x ready.0) ready.1 (λ now w y grows on hold worlds.
          looks_up m b true into a (c ∷ []) i p n f here (λ g. refl) (omega arith)
          (λ s holds k w x q on hold worlds passing.
          let there = used m k i x [] n f 1 p q on it here in
          let needs = found m k i x [] n f 1 p q on it here in
          let these = subst (AreThese on.known (a ∷ c ∷ [])) needs.2.0.1 needs.1 in
          let low = number_on m k i x [] n f 1 p q on Int c refl there.1.1.0 (λ e. e) these.1.0 in
          whole_comes m b true false into a (c ∷ []) i p n f here 1 (number_place m.adts (types_of m f) c) passing_place
          s low.number (pos (length s)) holds
          (λ w. ap (code.next frames_limit (program m) w p) here
          ∙ ap (λ (v : core.Slot). comes m b true false into a (c ∷ []) i p n f w (with_text (slice_in (text_of (core.value_of v))
          (number_of (core.value_of (core.slot p.frame.slots c))) (pos (length (text_of (core.value_of v))))))) holds
          ∙ ap (λ (v : core.Slot). comes m b true false into a (c ∷ []) i p n f w (with_text (slice_in s
          (number_of (core.value_of v)) (pos (length s))))) low.holds)
          (λ g. refl) refl (λ g. refl) k w x q on hold worlds
          (number_apart m f c into) (passing_apart m f into) low.found passing these.0)
          now w y q on hold worlds),
    )

all_go : (m : typed.Module) (b : Base m) (into a : ℕ) → InstrGoes m (instr false false into (a ∷ []))
all_go m b into a k i x p q ready here =
    let n = ready.0.stands.is.number in
    let f = ready.0.stands.is.function in
    let it = instr false false into (a ∷ []) in (
      2,
      on_way m b i p q [] n f 0 2 k x (on_ready m i p q k x ready.0) ready.1 (λ now w y grows on hold worlds.
          looks_up m b false into a [] i p n f here (λ g. refl) (omega arith)
          (λ s holds k w x q on hold worlds passing.
          let needs = found m k i x [] n f 1 p q on it here in
          let these = subst (AreThese on.known (a ∷ [])) needs.2.0.1 needs.1 in
          whole_comes m b false false into a [] i p n f here 1 passing_place passing_place s (pos 0) (pos (length s)) holds
          (λ w. ap (code.next frames_limit (program m) w p) here
          ∙ ap (λ (v : core.Slot). comes m b false false into a [] i p n f w (with_text (slice_in (text_of (core.value_of v))
          (pos 0) (pos (length (text_of (core.value_of v))))))) holds)
          (λ g. refl) refl (λ g. refl) k w x q on hold worlds
          (passing_apart m f into) (passing_apart m f into) refl passing these.0)
          now w y q on hold worlds),
    )

-- ---- all

three_slots : (slots : held.Slots) (from : List ℕ) (t u v : Ty) → AreThese slots from (t ∷ u ∷ v ∷ []) → (a : ℕ) × (c : ℕ) × (d : ℕ) × (from ≡ a ∷ c ∷ d ∷ [])
three_slots slots [] t u v these = absurd these
three_slots slots (a ∷ []) t u v these = absurd these.1
three_slots slots (a ∷ c ∷ []) t u v these = absurd these.1.1
three_slots slots (a ∷ c ∷ d ∷ []) t u v these = (a, c, d, refl)
three_slots slots (a ∷ c ∷ d ∷ e ∷ more) t u v these = absurd these.1.1.1

module _ (m : typed.Module) (b : Base m) (into : ℕ) (from : List ℕ) where
  written : (lo : Bool) → InstrGoes m (instr lo true into from)
  written true k i x p q ready here =
      let r = ready.0 in
      let known = r.stands.is.known in
      let found = finds m r.stands.is.function p.frame.pc known (instr true true into from) r.stands.goes (code_here m k i x p q r _ here) in
      let slots = three_slots known from ty.Chars ty.Int ty.Int (subst (AreThese known from) found.2.0.1 found.1) in
      both_go m b into slots.0 slots.1 slots.2 k i x p q ready (here ∙ ap (λ (rs : List ℕ). Some (instr true true into rs)) slots.3)
  written false k i x p q ready here =
      let r = ready.0 in
      let known = r.stands.is.known in
      let found = finds m r.stands.is.function p.frame.pc known (instr false true into from) r.stands.goes (code_here m k i x p q r _ here) in
      let slots = two_slots known from ty.Chars ty.Int (subst (AreThese known from) found.2.0.1 found.1) in
      to_go m b into slots.0 slots.1 k i x p q ready (here ∙ ap (λ (rs : List ℕ). Some (instr false true into rs)) slots.2)

  unwritten : (lo : Bool) → InstrGoes m (instr lo false into from)
  unwritten true k i x p q ready here =
      let r = ready.0 in
      let known = r.stands.is.known in
      let found = finds m r.stands.is.function p.frame.pc known (instr true false into from) r.stands.goes (code_here m k i x p q r _ here) in
      let slots = two_slots known from ty.Chars ty.Int (subst (AreThese known from) found.2.0.1 found.1) in
      from_go m b into slots.0 slots.1 k i x p q ready (here ∙ ap (λ (rs : List ℕ). Some (instr true false into rs)) slots.2)
  unwritten false k i x p q ready here =
      let r = ready.0 in
      let known = r.stands.is.known in
      let found = finds m r.stands.is.function p.frame.pc known (instr false false into from) r.stands.goes (code_here m k i x p q r _ here) in
      let slots = one_slot known from ty.Chars (subst (AreThese known from) found.2.0.1 found.1) in
      all_go m b into slots.0 k i x p q ready (here ∙ ap (λ (rs : List ℕ). Some (instr false false into rs)) slots.1)

-- a slice is a string
sliced : (m : typed.Module) (t : Ty) (lo hi : Bool) (into : ℕ) (from : List ℕ) (k : Facts) (i : ℕ) (x : World) (p : code.Process) (q : Process)
    → (r : Ready m k i x p q) → slice_get p.frame.code p.frame.pc ≡ Some (Give t (Operate (Slice sequence.Chars lo hi)) into from)
    → slice_get p.frame.code p.frame.pc ≡ Some (instr lo hi into from)
sliced m t lo hi into from k i x p q r here =
    let it = Give t (Operate (Slice sequence.Chars lo hi)) into from in
    let found = finds m r.stands.is.function p.frame.pc r.stands.is.known it r.stands.goes (code_here m k i x p q r it here) in
    here ∙ ap (λ (u : Ty). Some (Give u (Operate (Slice sequence.Chars lo hi)) into from)) (is_chars t found.2.0.0)

pub slices_go : SlicesGo
slices_go m b t lo true into from k i x p q ready here =
    written m b into from lo k i x p q ready (sliced m t lo true into from k i x p q ready.0 here)
slices_go m b t lo false into from k i x p q ready here =
    unwritten m b into from lo k i x p q ready (sliced m t lo false into from k i x p q ready.0 here)
