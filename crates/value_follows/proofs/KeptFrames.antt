-- Frames stand for what they stood for while more is known and the blocks of their own are as they were: that which runs, and those that
-- wait for an answer. So it is where others step.
use Rattle.std.proofs.Common.{◌≡◌, ℕ, pos, ◌≤◌, List, Option, ◌⊎◌, inl, inr, refl, sym, subst, arith, ◌∙◌}
use Rattle.heap_model.specs.Facts.{Named, Chars, Carrier}
use Rattle.limbo_types.specs.Types.{Ty}
use Rattle.limbo_layout.specs.Adts.{Has}
use Rattle.limbo_typed.specs.Typed as typed
use Rattle.core_code.specs.Machine as code
use Rattle.dis_meaning.specs.Words.{Word, word_at}
use Rattle.dis_meaning.specs.Process.{Frame, Process}
use Rattle.dis_memory.specs.Blocks.{World}
use Rattle.value_words.specs.Forms.{Instances, OwnedBy}
use Rattle.value_words.specs.Facts.{Facts, Grows}
use Rattle.value_frames.specs.Frames.{Form, Nowhere, AsNumber, AsReference, Boxed, form_of, answer_place, reference_place}
use Rattle.value_frames.specs.Frames.{box_bytes, room_for}
use Rattle.value_frames.specs.Standing.{IsIdle, nothing_there, text_left, carrier_left, RefersIdly, IsOwn, WordsAre}
use Rattle.value_frames.specs.Slots.{IsKept}
use Rattle.value_frames.specs.Later.{AreMadeBy}
use Rattle.value_frames.proofs.Later.{frames_later}
use Rattle.value_follows.specs.Stands.{types_of, Answer, Awaited, Referred, Filled, FrameIs, RefersSo, AnswerGoes, Waits}
use Rattle.value_follows.specs.Stands.{AllWait, none_waits, waits_below, Stands, Ready, Asking}
use Rattle.value_follows.specs.Kept.{SameOwn, FrameOwns, IsAnswerBox, WaitingOwn, OwnedIn, OwnedAsking}
use Rattle.value_follows.specs.Kept.{SameFrame, StandsStill, ReadyStill, AskingStill}

module _ (m : typed.Module) (k k' : Facts) (i : ℕ) (x x' : World) (grows : Grows k k')
    (frames : x.outside.frames ≤ x'.outside.frames) where
  abbrev AreKept : (ℕ → Type 0) → Type 0
  AreKept owned = (b : ℕ) → owned b → IsKept k' x.heap x'.heap b

  idle_later : (r : Option ℕ) → IsIdle m.adts k r → IsIdle m.adts k' r
  idle_later _ nothing_there = nothing_there
  idle_later _ (text_left b text e) = text_left b text (grows.facts b (Chars text) e)
  idle_later _ (carrier_left b d e texts) =
      carrier_left b d (grows.facts b (Carrier d) e) (λ q u. let f = texts q u in (f.0, grows.facts q (Chars f.0) f.1))

  idly_later : (words : List Word) (p : ℕ) → RefersIdly m.adts k words p → RefersIdly m.adts k' words p
  idly_later words p h = (h.0, h.1, idle_later h.0 h.2)

  -- ---- one frame

  abbrev kept_words : {busy : List ℕ} {g : code.Frame} {f : Frame} (is : FrameIs m k i x busy g f) → AreKept (FrameOwns m k i x is)
      → (after : WordsAre m.adts k' x'.heap f.serial busy (types_of m is.function) is.known g.variables g.slots f.words)
      × (after.own ≡ is.words.own)
  kept_words {busy = busy} {g = g} {f = f} is kept =
      (frames_later m.adts k x.heap f.serial busy (types_of m is.function) is.known g.variables g.slots f.words is.words).later
      k' x'.heap grows (λ s b h. kept b (s, h))

  abbrev kept_frame : {busy : List ℕ} {g : code.Frame} {f : Frame} (is : FrameIs m k i x busy g f) → AreKept (FrameOwns m k i x is)
      → FrameIs m k' i x' busy g f
  kept_frame {g = g} {f = f} is kept = let fresh = is.fresh in record {
    number = is.number;
    function = is.function;
    there = is.there;
    code = is.code;
    answer = is.answer;
    many = is.many;
    instance = grows.facts f.instance (Named g.instance) is.instance;
    formed = grows.forms f.instance Instances is.formed;
    known = is.known;
    words = (kept_words is kept).0;
    mine = subst (λ (own : ℕ → List ℕ). AreMadeBy k' i own) (sym (kept_words is kept).1) (λ s b h. grows.makers b i (is.mine s b h));
    fresh = omega (arith, frames, fresh);
  }

  frame_same : {busy : List ℕ} {g : code.Frame} {f : Frame} (is : FrameIs m k i x busy g f) (kept : AreKept (FrameOwns m k i x is))
      → SameFrame m k k' i x x' is (kept_frame is kept)
  frame_same is kept = record { number = refl; function = refl; known = refl; own = (kept_words is kept).1 }

  pub frame_later : {busy : List ℕ} {g : code.Frame} {f : Frame} (is : FrameIs m k i x busy g f) → AreKept (FrameOwns m k i x is)
      → (after : FrameIs m k' i x' busy g f) × SameFrame m k k' i x x' is after
  frame_later is kept = (kept_frame is kept, frame_same is kept)

  frame_owns : {busy : List ℕ} {g : code.Frame} {f : Frame} (is : FrameIs m k i x busy g f) (kept : AreKept (FrameOwns m k i x is))
      → SameOwn (FrameOwns m k i x is) (FrameOwns m k' i x' (kept_frame is kept))
  frame_owns is kept =
      let same = (kept_words is kept).1 in
      λ b. (
        λ h. (h.0, subst (λ (own : ℕ → List ℕ). Has (own h.0) b) (sym same) h.1),
        λ h. (h.0, subst (λ (own : ℕ → List ℕ). Has (own h.0) b) same h.1),
      )

  -- ---- where an answer goes

  so_later : (a : Answer) (words : List Word) (p : ℕ) → RefersSo m k i x a words p → RefersSo m k' i x' a words p
  so_later Awaited words p h = idly_later words p h
  so_later (Referred r) words p h = h
  so_later (Filled inner) words p h = idly_later words p h

  -- the one that was called is the same as far as those that wait for it see
  abbrev AsCalled : (callee changed : Frame) → Type 0
  AsCalled callee changed =
      (changed.serial ≡ callee.serial) × (word_at changed.words (pos answer_place) ≡ word_at callee.words (pos answer_place))

  answer_later : (a : Answer) (form : Form) (t : Ty) (f : Frame) (types : List Ty) (into : ℕ) (callee changed : Frame)
      (own after : ℕ → List ℕ) → AsCalled callee changed → after ≡ own → (goes : AnswerGoes m k i x a form t f types into callee own)
      → AreKept (IsAnswerBox m k i x a form t f types into callee own goes)
      → (g : AnswerGoes m k' i x' a form t f types into changed after)
      × SameOwn (IsAnswerBox m k i x a form t f types into callee own goes) (IsAnswerBox m k' i x' a form t f types into changed after g)
  answer_later a Nowhere t f types into callee changed own after seen same goes kept = (idly_later f.words _ goes, λ b. (λ h. h, λ h. h))
  answer_later a AsNumber t f types into callee changed own after seen same goes kept =
      ((idly_later f.words _ goes.0, seen.1 ∙ goes.1), λ b. (λ h. h, λ h. h))
  answer_later a AsReference t f types into callee changed own after seen same goes kept =
      ((so_later a f.words _ goes.0, seen.1 ∙ goes.1), λ b. (λ h. h, λ h. h))
  answer_later a Boxed t f types into callee changed own after seen same (b, inner, is, word, made, apart, fills) kept = (
    (
      b,
      inner,
      box,
      seen.1 ∙ word,
      grows.makers b i made,
      λ s h. apart s (subst (λ (o : ℕ → List ℕ). Has (o s) b) same h),
      fills,
    ),
    λ q. (λ h. h, λ h. h),
  )
    where
      box : IsOwn m.adts k' x'.heap f.serial f.words (reference_place m.adts types into) (box_bytes m.adts t)
          (room_for m.adts t).references b inner
      box = record {
        word = is.word;
        there = (kept b refl).1 ∙ is.there;
        free = (kept b refl).0;
        formed = grows.forms b (OwnedBy f.serial) is.formed;
        kind = is.kind;
      }

  -- ---- frames that wait

  record WaitsLater {a : Answer} {g : code.Frame} {f : Frame} {t : Ty} {callee : Frame} (changed : Frame)
      (w : Waits m k i x a g f t callee) : Type 0 where
    after : Waits m k' i x' a g f t changed
    own : SameOwn (FrameOwns m k i x w.is) (FrameOwns m k' i x' after.is)
    box : SameOwn (IsAnswerBox m k i x a (form_of t) t f (types_of m w.is.function) g.into callee w.is.words.own w.answer)
        (IsAnswerBox m k' i x' a (form_of t) t f (types_of m after.is.function) g.into changed after.is.words.own after.answer)

  one_later : {a : Answer} {g : code.Frame} {f : Frame} {t : Ty} {callee : Frame} (changed : Frame) → AsCalled callee changed
      → (w : Waits m k i x a g f t callee) → AreKept (FrameOwns m k i x w.is)
      → AreKept (IsAnswerBox m k i x a (form_of t) t f (types_of m w.is.function) g.into callee w.is.words.own w.answer)
      → WaitsLater changed w
  one_later {a = a} {g = g} {f = f} {t = t} {callee = callee} changed seen w kept box =
      let goes = answer_later a (form_of t) t f (types_of m w.is.function) g.into callee changed w.is.words.own (kept_words w.is kept).0.own
      seen (kept_words w.is kept).1 w.answer box in
      let older = w.older in
      let serial = seen.0 in
      record {
        after = record {
          is = kept_frame w.is kept;
          goes = w.goes;
          pc = w.pc;
          spare = w.spare;
          answer = goes.0;
          older = omega (arith, older, serial);
          unnamed = w.unnamed;
        };
        own = frame_owns w.is kept;
        box = goes.1;
      }

  pub all_later : {a : Answer} {t : Ty} {callee : Frame} {gs : List code.Frame} {fs : List Frame} (changed : Frame)
      → AsCalled callee changed → (ws : AllWait m k i x a t callee gs fs) → AreKept (WaitingOwn m k i x ws)
      → (after : AllWait m k' i x' a t changed gs fs) × SameOwn (WaitingOwn m k i x ws) (WaitingOwn m k' i x' after)
  all_later changed seen (none_waits a callee) kept = (none_waits a changed, λ b. (λ h. h, λ h. h))
  all_later changed seen (waits_below a t callee g f gs fs w ws) kept =
      let one = one_later changed seen w (λ b h. kept b (inl h)) (λ b h. kept b (inr (inl h))) in
      let others = all_later f (refl, refl) ws (λ b h. kept b (inr (inr h))) in (
        waits_below a t changed g f gs fs one.after others.0,
        λ b. (
          λ h. elim h [
            | inl u ↦ inl ((one.own b).0 u)
            | inr (inl u) ↦ inr (inl ((one.box b).0 u))
            | inr (inr u) ↦ inr (inr ((others.1 b).0 u))
          ],
          λ h. elim h [
            | inl u ↦ inl ((one.own b).1 u)
            | inr (inl u) ↦ inr (inl ((one.box b).1 u))
            | inr (inr u) ↦ inr (inr ((others.1 b).1 u))
          ],
        ),
      )

  -- ---- two processes

  both_owned : (one others one_after others_after : ℕ → Type 0) → SameOwn one one_after → SameOwn others others_after
      → SameOwn (λ b. one b ⊎ others b) (λ b. one_after b ⊎ others_after b)
  both_owned one others one_after others_after s t = λ b. (
    λ h. elim h [ inl u ↦ inl ((s b).0 u) | inr u ↦ inr ((t b).0 u) ],
    λ h. elim h [ inl u ↦ inl ((s b).1 u) | inr u ↦ inr ((t b).1 u) ],
  )

  pub stands_later : {busy : List ℕ} {a : Answer} {p : code.Process} {q : Process} (s : Stands m k i x busy a p q)
      → AreKept (OwnedIn m k i x s) → StandsStill m k k' i x x' s
  stands_later s kept =
      let mine : AreKept (FrameOwns m k i x s.is) = λ b h. kept b (inl h) in
      let below = all_later _ (refl, refl) s.waits (λ b h. kept b (inr h)) in
      record {
        after = record { number = s.number; is = kept_frame s.is mine; goes = s.goes; waits = below.0 };
        frame = frame_same s.is mine;
        own = both_owned _ _ _ _ (frame_owns s.is mine) below.1;
      }

  pub ready_later : {p : code.Process} {q : Process} (r : Ready m k i x p q) → AreKept (OwnedIn m k i x r.stands)
      → ReadyStill m k k' i x x' r
  ready_later r kept =
      let s = r.stands in
      let mine : AreKept (FrameOwns m k i x s.is) = λ b h. kept b (inl h) in
      let below = all_later _ (refl, refl) s.waits (λ b h. kept b (inr h)) in
      record {
        after = record {
          stands = record { number = s.number; is = kept_frame s.is mine; goes = s.goes; waits = below.0 };
          pc = r.pc;
          spare = r.spare;
          none_made = r.none_made;
        };
        frame = frame_same s.is mine;
        own = both_owned _ _ _ _ (frame_owns s.is mine) below.1;
      }

  pub asking_later : {p : code.Process} {q : Process} (a : Asking m k i x p q) → AreKept (OwnedAsking m k i x a)
      → AskingStill m k k' i x x' a
  asking_later {q = q} a kept =
      let mine : AreKept (FrameOwns m k i x a.is) = λ b h. kept b (inl h) in
      let below = all_later _ (refl, refl) a.waits (λ b h. kept b (inr h)) in
      record {
        after = record {
          number = a.number;
          is = kept_frame a.is mine;
          goes = a.goes;
          waits = below.0;
          pc = a.pc;
          spare = a.spare;
          none_made = a.none_made;
          refers = idly_later q.frame.words _ a.refers;
          unnamed = a.unnamed;
          writing = a.writing;
          printing = a.printing;
          printing_too = a.printing_too;
          behind = a.behind;
        };
        frame = frame_same a.is mine;
        own = both_owned _ _ _ _ (frame_owns a.is mine) below.1;
      }
