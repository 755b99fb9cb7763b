-- Where a frame that waits goes on with its answer, and two processes that stand for one another then.
use Rattle.std.proofs.Common.{◌≡◌, ℕ, Bool, true, false, zero, suc, pos, ◌/◌, ◌%◌, ◌==◌, ◌<◌, List, [], ◌∷◌, length, Option, Some, None, refl, ap, ◌∙◌, subst, arith, inl, inr}
use Rattle.std.proofs.Common.{if◌then◌else◌}
use Rattle.std.specs.Prelude.{slice_get}
use Rattle.std.proofs.lemmas.Bool.Decides.{eqb_tells}
use Rattle.limbo_types.specs.Types.{Ty}
use Rattle.limbo_layout.specs.Adts.{Has}
use Rattle.limbo_typed.specs.Typed as typed
use Rattle.limbo_meaning.specs.Values.{Value}
use Rattle.core_code.specs.Machine as code
use Rattle.core_code.specs.Slots as core
use Rattle.core_code.specs.Slots.{Holds}
use Rattle.core_typing.specs.Held as held
use Rattle.core_typing.specs.Held.{Of}
use Rattle.core_typing.specs.Going.{all_of}
use Rattle.dis_meaning.specs.Words.{Word, Refer, Found, Wrong, ◌>>=◌, word_at, or_wrong, type_check}
use Rattle.dis_meaning.specs.Process.{Frame, Process, with_frames}
use Rattle.dis_memory.specs.Blocks.{World}
use Rattle.value_words.specs.Facts.{Facts}
use Rattle.value_frames.specs.Frames.{Form, Nowhere, AsNumber, AsReference, Boxed, form_of, number_place, reference_place}
use Rattle.value_frames.specs.Standing.{SlotStands, WordsAre}
use Rattle.value_frames.specs.Later.{AreMadeBy}
use Rattle.value_frames.proofs.Slots.{slots_change, put_long}
use Rattle.value_frames.proofs.Later.{frames_later}
use Rattle.value_moves.proofs.Changing.{low_or_high}
use Rattle.value_follows.specs.Stands.{types_of, Awaited, AnswerGoes, Waits, AllWait, Ready}

-- ---- the slot that waits is one of the frame's: its word that refers is there

get_below : {A : Type 0} (xs : List A) (n : ℕ) (y : A) → slice_get xs n ≡ Some y → n < length xs
get_below [] zero y e = absurd cc
get_below [] (suc n) y e = absurd cc
get_below (x ∷ xs) zero y e = omega arith
get_below (x ∷ xs) (suc n) y e = let l = get_below xs n y e in omega (arith, l)

word_inside : (words : List Word) (at : ℕ) (w : Word) → word_at words (pos at) ≡ Found w → at / 4 < length words
word_inside words at w e = go (at % 4 == 0) e
  where
    there : (o : Option Word) → or_wrong type_check o ≡ Found w → (v : Word) × (o ≡ Some v)
    there None e = absurd cc
    there (Some v) e = (v, refl)

    go : (b : Bool) → ((if b then Found (at / 4) else Wrong type_check) >>= λ k. or_wrong type_check (slice_get words k)) ≡ Found w
        → at / 4 < length words
    go true e = let t = there (slice_get words (at / 4)) e in get_below words (at / 4) t.0 t.1
    go false e = absurd cc

module _ (m : typed.Module) (k : Facts) (i : ℕ) (x : World) (t : Ty) (f : Frame) (types : List Ty) (into : ℕ) (callee : Frame) (own : ℕ → List ℕ) where
  refers_there : (form : Form) → AnswerGoes m k i x Awaited form t f types into callee own
      → (r : Option ℕ) × (word_at f.words (pos (reference_place m.adts types into)) ≡ Found (Refer r))
  refers_there Nowhere a = (a.0, a.1)
  refers_there AsNumber a = (a.0.0, a.0.1)
  refers_there AsReference a = (a.0.0, a.0.1)
  refers_there Boxed a = (Some a.0, a.2.word)

pub slot_below : (m : typed.Module) (k : Facts) (i : ℕ) (x : World) (g : code.Frame) (f : Frame) (t : Ty) (callee : Frame)
    → Waits m k i x Awaited g f t callee → g.into < length g.slots
slot_below m k i x g f t callee w =
    let types = types_of m w.is.function in
    let r = refers_there m k i x t f types g.into callee w.is.words.own (form_of t) w.answer in
    let e = word_inside f.words (reference_place m.adts types g.into) (Refer r.0) r.1 in
    let many = w.is.words.kind.many in
    omega (arith, e, many)

-- ---- a frame that waits has its answer

alone : (s : ℕ) → held.without s (s ∷ []) ≡ []
alone s = elim (eqb_tells s s) [ inl y ↦ ap (λ (b : Bool). if b then [] else s ∷ []) y.0 | inr y ↦ absurd (y.1 refl) ]

module _ (m : typed.Module) (k : Facts) (i : ℕ) (x : World) (g : code.Frame) (f : Frame) (t : Ty) (callee : Frame) (w : Waits m k i x Awaited g f t callee) (v : Value)
  where
    abbrev pub types : List Ty
    types = types_of m w.is.function

    abbrev pub held_then : held.Held
    held_then = Of t (all_of m.adts t)

    abbrev pub Answers : Type 0
    Answers =
        SlotStands m.adts k x.heap f.serial f.words (number_place m.adts types g.into) (reference_place m.adts types g.into) held_then (Holds v) []

    abbrev Then : List ℕ → Type 0
    Then busy =
        (after : WordsAre m.adts k x.heap f.serial busy types (held.put w.is.known g.into held_then) g.variables (core.put g.slots g.into (Holds v)) f.words)
        × AreMadeBy k i after.own

    answer_known : Answers → Then []
    answer_known stands =
        let are = w.is.words in
        let l = slot_below m k i x g f t callee w in
        let owned = (frames_later m.adts k x.heap f.serial (g.into ∷ []) types w.is.known g.variables g.slots f.words are).owned in
        let after = slots_change.slot m.adts k k x.heap x.heap f.serial (g.into ∷ []) types w.is.known g.variables g.slots f.words f.words g.into
        held_then (Holds v) [] are
        (record { facts = λ n f e. e; makers = λ n j e. e; forms = λ n o e. e }) l (record { each = λ w no. refl }) are.kind stands tt
        (λ u b ne h. (λ e. e, ((owned u b h).0, refl))) in
        subst Then (alone g.into) (
          after.after,
          λ u b h. elim (low_or_high u g.into) [
            | inl low ↦ w.is.mine u b (subst (λ o. Has o b) (after.elsewhere u (λ e. omega (arith, e, low))) h)
            | inr high ↦ elim (low_or_high g.into u) [
              | inl more ↦ w.is.mine u b (subst (λ o. Has o b) (after.elsewhere u (λ e. omega (arith, e, more))) h)
              | inr less ↦
                  let same : u ≡ g.into = omega (arith, high, less) in
                  absurd (subst (λ o. Has o b) (ap after.after.own same ∙ after.here) h)
            ]
          ],
        )

    module _ (p : code.Process) (q : Process) (gs : List code.Frame) (fs : List Frame) (number : p.number ≡ q.number) (none_made : q.made ≡ [])
        (waits : AllWait m k i x Awaited g.answer f gs fs) where
      pub ready_back : Answers → Ready m k i x (code.with_frames p (code.answered g v) gs) (with_frames q f fs q.made)
      ready_back stands =
          let known = answer_known stands in
          record {
            stands = record {
              number = number;
              is = record {
                number = w.is.number;
                function = w.is.function;
                there = w.is.there;
                code = w.is.code;
                answer = w.is.answer;
                many = put_long g.slots g.into (Holds v) ∙ w.is.many;
                instance = w.is.instance;
                formed = w.is.formed;
                known = held.put w.is.known g.into held_then;
                words = known.0;
                mine = known.1;
                fresh = w.is.fresh;
              };
              goes = w.goes;
              waits = waits;
            };
            pc = w.pc;
            spare = w.spare;
            none_made = none_made;
          }
