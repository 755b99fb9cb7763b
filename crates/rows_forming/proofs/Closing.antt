-- The row is at its end: the operand's slot is empty, and the other has what is put together as its own.
use Rattle.std.proofs.Common.{◌≡◌, ◌⊎◌, ℕ, suc, pos, ◌+◌, ◌*◌, ◌/◌, ◌<◌, ◌≤◌, List, [], ◌∷◌, length, Option, Some, refl, sym, ap, subst}
use Rattle.std.proofs.Common.{◌∙◌, arith, inl, inr}
use Rattle.heap_model.specs.Heap.{Heap, at}
use Rattle.heap_model.proofs.Growing.{grows_same}
use Rattle.limbo_types.specs.Types as ty
use Rattle.limbo_types.specs.Types.{Ty}
use Rattle.limbo_layout.specs.Adts.{Def, Has}
use Rattle.limbo_typed.specs.Typed as typed
use Rattle.limbo_meaning.specs.Process.{Shared}
use Rattle.limbo_meaning.specs.Values.{Value, nothing}
use Rattle.core_code.specs.Machine as code
use Rattle.core_code.specs.Slots as core
use Rattle.core_code.specs.Slots.{Holds, Forms}
use Rattle.core_typing.specs.Held as held
use Rattle.core_typing.specs.Held.{Held, Of, Forming}
use Rattle.dis_meaning.specs.Words.{Word, Refer, Found, word_at}
use Rattle.dis_meaning.specs.Process.{Process}
use Rattle.dis_memory.specs.Blocks.{Block, World}
use Rattle.value_words.specs.Facts.{Facts}
use Rattle.value_frames.specs.Frames.{answer_place, spare_place, number_place, reference_place, frame_bytes, frame_references}
use Rattle.value_frames.specs.Types.{AreOf}
use Rattle.value_frames.specs.Slots.{ElseAsWas, OneSlotChanged}
use Rattle.value_frames.specs.Standing.{SlotStands, a_value, a_forming, RefersIdly, WordsAre}
use Rattle.value_frames.proofs.Slots.{slots_change, put_long, was_among}
use Rattle.value_moves.proofs.Changing.{low_or_high}
use Rattle.value_follows.specs.Stands.{types_of, place_of, Awaited, Ready, GoesOn}
use Rattle.value_follows.specs.Sides.{sides}
use Rattle.value_follows.specs.Rows.{Base}
use Rattle.value_follows.proofs.Putting.{word_same}
use Rattle.value_follows.proofs.Several.{moved_to}
use Rattle.value_follows.proofs.Standing.{stands_on}
use Rattle.rows_forming.proofs.Builds.{Builds, only_one}
use Rattle.rows_forming.proofs.Putting.{owned}
use Rattle.rows_forming.proofs.SoFar.{SoFar, so_far, is_forming}

-- no slot is busy any more
pub idle_words : (defs : List Def) (k : Facts) (x : Heap Block) (frame : ℕ) (busy : List ℕ) (types : List Ty) (known : held.Slots) (vs : List Value)
    (slots : core.Slots) (ws : List Word) → ((s : ℕ) → Has busy s → ⊥) → (are : WordsAre defs k x frame busy types known vs slots ws)
    → (idle : WordsAre defs k x frame [] types known vs slots ws) × (idle.own ≡ are.own)
idle_words defs k x frame busy types known vs slots ws none are = (
  record {
    laid = are.laid;
    kind = are.kind;
    values = are.values;
    as_many = are.as_many;
    own = are.own;
    none_past = are.none_past;
    busy_bare = λ s h. absurd h;
    each = λ s h l free e g. are.each s h l (none s) e g;
    single = are.single;
    apart = are.apart;
  },
  refl,
)

pub same_or_not : (r s : ℕ) → (r ≡ s) ⊎ (r ≡ s → ⊥)
same_or_not r s = elim (low_or_high r s) [
  | inl low ↦ inr (λ z. omega (arith, z, low))
  | inr high ↦ elim (low_or_high s r) [ inl more ↦ inr (λ z. omega (arith, z, more)) | inr less ↦ inl (omega (arith, high, less)) ]
]

module _ (m : typed.Module) (b : Base m) (number : ℕ) (f : typed.Function) (t : Ty) (into far box : ℕ) (inner : List Word) (known : held.Slots) (i : ℕ)
    (p : code.Process) (q : Process) (k : Facts) (w : Shared) (x : World) (worlds : (sides m).worlds k w x) (variant : Option ℕ) (ks : List ℕ)
    (us : List Ty) (live : List ℕ) (vs : List Value)
    (s : Builds m number f t into far box inner (so_far m.adts t variant ks vs) known k i x p q) (c : SoFar m.adts t variant ks us live vs)
    (from : ℕ) (ne : from ≡ into → ⊥) (few : into < length p.frame.slots) (below : from < length p.frame.slots)
    (bare : s.stands.is.words.own from ≡ []) where
  abbrev types : List Ty
  types = types_of m s.stands.is.function

  abbrev pub closed_slots : core.Slots
  closed_slots = core.put (core.put p.frame.slots from core.empty) into (Forms vs)

  abbrev pub closed_known : held.Slots
  closed_known = held.put (held.put s.stands.is.known from held.empty) into (Forming t variant ks us live)

  module _ (words : List Word) (else_as_was : ElseAsWas q.frame.words words (number_place m.adts types from) 8)
      (kind : AreOf (frame_bytes m.adts types (length p.frame.slots)) (frame_references m.adts types (length p.frame.slots)) words)
      (idle : RefersIdly m.adts k words (reference_place m.adts types from)) where
    stays_in_front : (at : ℕ) → 4 * (at / 4) + 4 ≤ number_place m.adts types from → word_at words (pos at) ≡ word_at q.frame.words (pos at)
    stays_in_front at low = word_same q.frame.words words at (else_as_was.each (at / 4) (λ h. let a = h.0 in absurd (omega (arith, a, low))))

    word_stays : word_at words (pos (reference_place m.adts types into)) ≡ word_at q.frame.words (pos (reference_place m.adts types into))
    word_stays =
        word_same q.frame.words words (reference_place m.adts types into) (else_as_was.each (reference_place m.adts types into / 4) (λ h.
        let a = h.0 in
        let d = h.1 in
        elim (low_or_high from into) [
          | inl low ↦ omega (arith, a, d, low)
          | inr high ↦ elim (low_or_high into from) [ inl more ↦ omega (arith, a, d, more) | inr less ↦ ne (omega (arith, high, less)) ]
        ]))

    box_word : word_at words (pos (reference_place m.adts types into)) ≡ Found (Refer (Some box))
    box_word =
        word_stays ∙ (ap (λ (g : typed.Function). word_at q.frame.words (pos (reference_place m.adts (types_of m g) into))) s.function_is ∙ s.word)

    empty_stands : SlotStands m.adts k x.heap q.frame.serial words (number_place m.adts types from) (reference_place m.adts types from)
        held.empty core.empty []
    empty_stands =
        a_value words (number_place m.adts types from) (reference_place m.adts types from) ty.Nothing [] nothing (refl, idle) (λ j n e. absurd cc)

    forming_stands : SlotStands m.adts k x.heap q.frame.serial words (number_place m.adts types into) (reference_place m.adts types into)
        (Forming t variant ks us live) (Forms vs) (box ∷ [])
    forming_stands =
        a_forming words inner (number_place m.adts types into) (reference_place m.adts types into) box t variant ks us live vs
        (record { word = box_word; there = s.there; free = s.free; formed = s.formed; kind = s.kind })
        (is_forming m.adts t variant k ks us live vs inner c s.is)

    first : OneSlotChanged m.adts k k x.heap x.heap q.frame.serial (into ∷ []) types s.stands.is.known p.frame.variables p.frame.slots q.frame.words
        words s.stands.is.words from held.empty core.empty []
    first =
        slots_change.slot m.adts k k x.heap x.heap q.frame.serial (into ∷ []) types s.stands.is.known p.frame.variables p.frame.slots q.frame.words
        words from held.empty core.empty [] s.stands.is.words (grows_same k) below else_as_was kind empty_stands tt
        (λ r d other h. (λ e. e, (owned m b number f t into far box inner _ known i p q k w x s worlds r d h, refl)))

    own_first : (r d : ℕ) → Has (first.after.own r) d → Has (s.stands.is.words.own r) d
    own_first r d h = elim (same_or_not r from) [
      | inl same ↦ absurd (subst (λ (o : List ℕ). Has o d) (ap first.after.own same ∙ first.here) h)
      | inr other ↦ subst (λ (o : List ℕ). Has o d) (first.elsewhere r other) h
    ]

    long_first : length (core.put p.frame.slots from core.empty) ≡ length p.frame.slots
    long_first = put_long p.frame.slots from core.empty

    second : OneSlotChanged m.adts k k x.heap x.heap q.frame.serial (held.without from (into ∷ [])) types
        (held.put s.stands.is.known from held.empty) p.frame.variables (core.put p.frame.slots from core.empty) words words first.after into
        (Forming t variant ks us live) (Forms vs) (box ∷ [])
    second =
        slots_change.slot m.adts k k x.heap x.heap q.frame.serial (held.without from (into ∷ [])) types (held.put s.stands.is.known from held.empty)
        p.frame.variables (core.put p.frame.slots from core.empty) words words into (Forming t variant ks us live) (Forms vs) (box ∷ []) first.after
        (grows_same k) (omega (arith, few, long_first)) (record { each = λ u no. refl })
        (subst (λ (n : ℕ). AreOf (frame_bytes m.adts types n) (frame_references m.adts types n) words) (sym long_first) kind)
        forming_stands ((λ h. h), tt)
        (λ r d other h. (
          λ e. s.apart r (own_first r box (subst (λ (j : ℕ). Has (first.after.own r) j) (sym (only_one box d e)) h)),
          (owned m b number f t into far box inner _ known i p q k w x s worlds r d (own_first r d h), refl),
        ))

    none_busy : (r : ℕ) → Has (held.without into (held.without from (into ∷ []))) r → ⊥
    none_busy r h =
        let one = was_among into r (held.without from (into ∷ [])) h in
        let two = was_among from r (into ∷ []) one.0 in
        one.1 (sym (only_one into r two.0))

    last : (idle : WordsAre m.adts k x.heap q.frame.serial [] types closed_known p.frame.variables closed_slots words)
        × (idle.own ≡ second.after.own)
    last =
        idle_words m.adts k x.heap q.frame.serial (held.without into (held.without from (into ∷ []))) types closed_known p.frame.variables
        closed_slots words none_busy second.after

    mine : (r d : ℕ) → Has (last.0.own r) d → k.maker d ≡ Some i
    mine r d h =
        let g = subst (λ (o : ℕ → List ℕ). Has (o r) d) last.1 h in
        elim (same_or_not r into) [
          | inl same ↦
              let e = only_one box d (subst (λ (o : List ℕ). Has o d) (ap second.after.own same ∙ second.here) g) in
              subst (λ (j : ℕ). k.maker j ≡ Some i) e s.made
          | inr other ↦
              s.stands.is.mine r d (own_first r d (subst (λ (o : List ℕ). Has o d) (second.elsewhere r other) g))
        ]

    pub closed : (to : ℕ) → to ≡ place_of m number f (suc p.frame.pc) → GoesOn m s.stands.is.function (suc p.frame.pc) closed_known
        → Ready m k i x (code.with_frames p (code.at p.frame (suc p.frame.pc) p.frame.variables closed_slots) p.below) (moved_to q to words)
    closed to there goes =
        let long = put_long (core.put p.frame.slots from core.empty) into (Forms vs) ∙ long_first in
        let on = stands_on m k i x (into ∷ []) Awaited p q s.stands [] (suc p.frame.pc) to closed_known p.frame.variables closed_slots words q.made
        long last.0 mine goes (stays_in_front answer_place (omega arith)) in
        record {
          stands = on.stands;
          pc = there
              ∙ (ap (λ (n : ℕ). place_of m n f (suc p.frame.pc)) (sym (on.number ∙ s.number_is))
              ∙ ap (λ (g : typed.Function). place_of m on.stands.is.number g (suc p.frame.pc)) (sym (on.function ∙ s.function_is)));
          spare = ap (λ (g : typed.Function). word_at words (pos (spare_place m.adts (types_of m g)))) (on.function)
              ∙ (stays_in_front (spare_place m.adts types) (omega arith)
              ∙ (ap (λ (g : typed.Function). word_at q.frame.words (pos (spare_place m.adts (types_of m g)))) s.function_is ∙ s.spare));
          none_made = s.none_made;
        }
