-- A frame that waits for an answer, and does so with something else in its slot.
use Rattle.std.proofs.Common.{◌≡◌, ◌⊎◌, ℕ, Bool, true, false, pos, ◌+◌, ◌*◌, ◌/◌, ◌%◌, ◌==◌, ◌<◌, ◌≤◌, List, [], ◌∷◌, ◌++◌, length, map, refl, sym, ap, ◌∙◌, subst, arith, inl, inr}
use Rattle.std.proofs.Common.{if◌then◌else◌}
use Rattle.std.specs.Prelude.{slice_get, nat_eq}
use Rattle.std.proofs.lemmas.Bool.Decides.{eqb_tells}
use Rattle.limbo_types.specs.Types.{Ty}
use Rattle.limbo_typed.specs.Typed as typed
use Rattle.core_code.specs.Machine as code
use Rattle.dis_meaning.specs.Words.{Word, Found, Wrong, ◌>>=◌, word_at, or_wrong, type_check}
use Rattle.dis_meaning.specs.Process.{Frame, Process, with_words, with_frames}
use Rattle.dis_meaning.specs.Places.{words_in, all_frames, change, with_frame_words}
use Rattle.dis_memory.specs.Blocks.{World}
use Rattle.value_words.specs.Contents.{AreInRange}
use Rattle.value_words.specs.Facts.{Facts}
use Rattle.value_frames.specs.Types.{AreOf}
use Rattle.value_frames.specs.Frames.{Form, form_of, answer_place, spare_place, number_place, frame_bytes, frame_references}
use Rattle.value_frames.specs.Standing.{WordsAre}
use Rattle.value_frames.specs.Slots.{ElseAsWas}
use Rattle.value_frames.specs.Later.{AreMadeBy}
use Rattle.value_frames.proofs.Slots.{slots_change}
use Rattle.value_frames.proofs.Replacing.{kinds_stay}
use Rattle.value_frames.proofs.Later.{frames_later}
use Rattle.value_moves.specs.Changing.{Changes}
use Rattle.value_moves.proofs.Changing.{low_or_high}
use Rattle.value_follows.specs.Stands.{types_of, Answer, Awaited, AnswerGoes, Waits, AllWait, none_waits, waits_below}
use Rattle.value_follows.proofs.Standing.{all_wait}
use Rattle.value_follows.proofs.Putting.{NumberWord, number_word}
use Rattle.rows_ending.proofs.Returning.{slot_below}

-- ---- words that are there

word_same : (words others : List Word) (at : ℕ) → slice_get others (at / 4) ≡ slice_get words (at / 4) → word_at others (pos at) ≡ word_at words (pos at)
word_same words others at e = go (at % 4 == 0)
  where
    go : (b : Bool) → ((if b then Found (at / 4) else Wrong type_check) >>= λ k. or_wrong type_check (slice_get others k))
        ≡ ((if b then Found (at / 4) else Wrong type_check) >>= λ k. or_wrong type_check (slice_get words k))
    go true = ap (or_wrong type_check) e
    go false = refl

-- ---- frames of a process by their serials

alike : (a : ℕ) → nat_eq a a ≡ true
alike a = elim (eqb_tells a a) [ inl y ↦ y.0 | inr y ↦ absurd (y.1 refl) ]

unlike : (a b : ℕ) → b < a → nat_eq a b ≡ false
unlike a b l = elim (eqb_tells a b) [ inl y ↦ (let e = y.1 in absurd (omega (arith, e, l))) | inr y ↦ y.0 ]

changed_here : (f : Frame) (new : List Word) → change f.serial new f ≡ with_words f new
changed_here f new = ap (λ (b : Bool). if b then with_words f new else f) (alike f.serial)

unchanged : (s : ℕ) (new : List Word) (f : Frame) → s < f.serial → change s new f ≡ f
unchanged s new f l = ap (λ (b : Bool). if b then with_words f new else f) (unlike f.serial s l)

older_unchanged : (s : ℕ) (new : List Word) (f : Frame) → f.serial < s → change s new f ≡ f
older_unchanged s new f l = elim (eqb_tells f.serial s) [
  | inl y ↦ (let e = y.1 in absurd (omega (arith, e, l)))
  | inr y ↦ ap (λ (b : Bool). if b then with_words f new else f) y.0
]

module _ (m : typed.Module) (k : Facts) (i : ℕ) (x : World) where
  -- frames that wait are older than the one that they wait for
  others_stay : (s : ℕ) (new : List Word) (a : Answer) (t : Ty) (c : Frame) (gs : List code.Frame) (fs : List Frame) → c.serial ≤ s
      → AllWait m k i x a t c gs fs → map (change s new) fs ≡ fs
  others_stay s new _ _ _ _ _ l (none_waits a c) = refl
  others_stay s new _ _ _ _ _ l (waits_below a t c g f gs fs w rest) =
      let o = w.older in
      ap (λ h. h ∷ map (change s new) fs) (older_unchanged s new f (omega (arith, o, l)))
      ∙ ap (λ hs. f ∷ hs) (others_stay s new Awaited g.answer f gs fs (omega (arith, o, l)) rest)

  module _ (t : Ty) (q : Process) (g : code.Frame) (f : Frame) (gs : List code.Frame) (fs : List Frame) (below : q.below ≡ f ∷ fs) (none_made : q.made ≡ [])
      (w : Waits m k i x Awaited g f t q.frame) (rest : AllWait m k i x Awaited g.answer f gs fs) where
    pub words_found : words_in f.serial (all_frames q) ≡ Found f.words
    words_found =
        let o = w.older in
        ap (λ (b : Bool). if b then Found q.frame.words else words_in f.serial (q.below ++ q.made)) (unlike q.frame.serial f.serial o)
        ∙ ap (λ (hs : List Frame). words_in f.serial (hs ++ q.made)) below
        ∙ ap (λ (b : Bool). if b then Found f.words else words_in f.serial (fs ++ q.made)) (alike f.serial)

    pub words_stored : (new : List Word) → with_frame_words q f.serial new ≡ with_frames q q.frame (with_words f new ∷ fs) []
    words_stored new =
        let o = w.older in
        ap (λ (h : Frame). with_frames q h (map (change f.serial new) q.below) (map (change f.serial new) q.made)) (unchanged f.serial new q.frame o)
        ∙ ap (λ (hs : List Frame). with_frames q q.frame (map (change f.serial new) hs) (map (change f.serial new) q.made)) below
        ∙ ap (λ (hs : List Frame). with_frames q q.frame (change f.serial new f ∷ map (change f.serial new) fs) (map (change f.serial new) hs)) none_made
        ∙ ap (λ (h : Frame). with_frames q q.frame (h ∷ map (change f.serial new) fs) []) (changed_here f new)
        ∙ ap (λ (hs : List Frame). with_frames q q.frame (with_words f new ∷ hs) [])
        (others_stay f.serial new Awaited g.answer f gs fs (omega arith) rest)

  -- ---- something is stored in the slot

  module _ (t : Ty) (g : code.Frame) (f : Frame) (callee : Frame) (w : Waits m k i x Awaited g f t callee) where
    abbrev pub types : List Ty
    types = types_of m w.is.function

    abbrev pub n_at : ℕ
    n_at = number_place m.adts types g.into

    -- where the answer goes, of one form
    pub goes_to : (form : Form) → form_of t ≡ form → AnswerGoes m k i x Awaited form t f types g.into callee w.is.words.own
    goes_to form e = subst (λ o. AnswerGoes m k i x Awaited o t f types g.into callee w.is.words.own) e w.answer

    pub old_word : NumberWord m.adts types (length g.slots) f.words w.is.words.laid w.is.words.kind g.into (slot_below m k i x g f t callee w)
    old_word =
        number_word m.adts types (length g.slots) f.words w.is.words.laid w.is.words.kind g.into (slot_below m k i x g f t callee w)

    module _ (others : List Word) (to size : ℕ) (from : n_at ≤ to) (past : to + size ≤ n_at + 8) (changes : Changes f.words others to size)
        (ranged : AreInRange others) where
      pub stays : (at : ℕ) → (4 * (at / 4) + 4 ≤ to) ⊎ (to + size ≤ 4 * (at / 4)) → word_at others (pos at) ≡ word_at f.words (pos at)
      stays at apart = word_same f.words others at (changes.words (at / 4) apart)

      else_as_was : ElseAsWas f.words others n_at 8
      else_as_was = record {
        each = λ w no. elim (low_or_high (4 * w) n_at) [
          | inl low ↦ changes.words w (inl (omega (arith, low, from)))
          | inr high ↦ elim (low_or_high (4 * w) (n_at + 8)) [
            | inl within ↦ absurd (no (high, within))
            | inr over ↦ changes.words w (inr (omega (arith, over, past)))
          ]
        ];
      }

      kind_stays : AreOf (frame_bytes m.adts types (length g.slots)) (frame_references m.adts types (length g.slots)) others
      kind_stays =
          kinds_stay.all (frame_bytes m.adts types (length g.slots)) (frame_references m.adts types (length g.slots)) f.words others
          w.is.words.kind changes.many changes.refer changes.referred ranged

      words_then : (after : WordsAre m.adts k x.heap f.serial (g.into ∷ []) types w.is.known g.variables g.slots others) × (after.own ≡ w.is.words.own)
      words_then =
          let are = w.is.words in
          let owned = (frames_later m.adts k x.heap f.serial (g.into ∷ []) types w.is.known g.variables g.slots f.words are).owned in
          slots_change.within m.adts k k x.heap x.heap f.serial (g.into ∷ []) types w.is.known g.variables g.slots f.words others g.into are (inl refl)
          (record { facts = λ n f e. e; makers = λ n j e. e; forms = λ n o e. e }) else_as_was kind_stays (λ u b h. ((owned u b h).0, refl))

      -- it waits still, where its answer goes there as before
      pub waits_then : (form : Form) → form_of t ≡ form → AnswerGoes m k i x Awaited form t (with_words f others) types g.into callee w.is.words.own
          → Waits m k i x Awaited g (with_words f others) t callee
      waits_then form e answer =
          let now = words_then in
          record {
            is = record {
              number = w.is.number;
              function = w.is.function;
              there = w.is.there;
              code = w.is.code;
              answer = w.is.answer;
              many = w.is.many;
              instance = w.is.instance;
              formed = w.is.formed;
              known = w.is.known;
              words = now.0;
              mine = subst (λ (own : ℕ → List ℕ). AreMadeBy k i own) (sym now.1) w.is.mine;
              fresh = w.is.fresh;
            };
            goes = w.goes;
            pc = w.pc;
            spare = stays (spare_place m.adts types) (inl (omega (arith, from))) ∙ w.spare;
            answer = subst (λ (own : ℕ → List ℕ). AnswerGoes m k i x Awaited (form_of t) t (with_words f others) types g.into callee own) (sym now.1)
                (subst (λ o. AnswerGoes m k i x Awaited o t (with_words f others) types g.into callee w.is.words.own) (sym e) answer);
            older = w.older;
            unnamed = w.unnamed;
          }

      pub rest_then : (gs : List code.Frame) (fs : List Frame) → AllWait m k i x Awaited g.answer f gs fs → AllWait m k i x Awaited g.answer (with_words f others) gs fs
      rest_then gs fs rest = all_wait m k i x Awaited g.answer f (with_words f others) gs fs refl (stays answer_place (inl (omega (arith, from)))) rest
