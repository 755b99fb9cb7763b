-- What the words of two processes that stand for one another hold, over all their frames.
use Rattle.std.proofs.Common.{◌≡◌, ℕ, ◌<◌, pos, true, List, [], ◌∷◌, ◌++◌, Option, Some, None, inl, inr, sym, subst, arith}
use Rattle.heap_model.specs.Heap.{Heap, at, there, graph}
use Rattle.heap_model.specs.Alike.{Holds}
use Rattle.heap_model.proofs.Alike.{is_inner}
use Rattle.limbo_types.specs.Types.{Ty}
use Rattle.limbo_layout.specs.Adts.{Has}
use Rattle.limbo_typed.specs.Typed as typed
use Rattle.limbo_meaning.specs.Memory.{HeapValue}
use Rattle.core_code.specs.Machine as code
use Rattle.core_code.specs.Machine.{frame_names, frames_name, process_names}
use Rattle.core_code.specs.Slots.{slot, slot_names}
use Rattle.dis_meaning.specs.Words.{Word, Refer, Found, word_at}
use Rattle.dis_meaning.specs.Process.{Frame, Process}
use Rattle.dis_memory.specs.Blocks.{Record, World}
use Rattle.dis_memory.specs.Naming as machine
use Rattle.dis_memory.specs.Naming.{inside}
use Rattle.value_words.specs.Facts.{Facts}
use Rattle.value_frames.specs.Frames.{Form, Nowhere, AsNumber, AsReference, Boxed, form_of, reference_place}
use Rattle.value_frames.specs.Standing.{RefersIdly}
use Rattle.value_roots.specs.Accounts.{Accounted, to_nothing, to_inner, AllAccounted, none, LeadTo, frame_words, all_words, process_words}
use Rattle.value_roots.proofs.Words.{either, has_counts, has_first, has_second}
use Rattle.value_roots.proofs.Later.{several, first_leads, second_leads}
use Rattle.value_roots.proofs.Process.{process_counts, process_holds}
use Rattle.value_follows.specs.Stands.{types_of, spare_of, Answer, Awaited, Referred, Filled, ReferNowhere, FillsSo, FrameIs, RefersSo}
use Rattle.value_follows.specs.Stands.{AnswerGoes, Waits, AllWait, none_waits, waits_below, Ready, Asking}
use Rattle.value_follows.specs.Rooted.{IsAmong, AreAccounted, PlaceAccounted, AnswerAccounted, OnTheWay, BusyLead, StandsAreRooted}
use Rattle.value_follows.proofs.RootedValues.{has_at, each_accounted}
use Rattle.value_follows.proofs.RootedSlots.{IsWhole, same_block, idly_accounted}
use Rattle.value_follows.proofs.RootedFrames.{Live, frame_accounted, frame_leads}

only_one : (s r : ℕ) → Has (s ∷ []) r → s ≡ r
only_one s r (inl e) = e
only_one s r (inr h) = absurd h

-- a busy slot that is to have an answer names nothing
not_named : (g : code.Frame) (n : ℕ) → ((j : ℕ) → slot_names (slot g.slots g.into) j ≡ 0)
    → (s : ℕ) × Has (g.into ∷ []) s × (0 < slot_names (slot g.slots s) n) → ⊥
not_named g n unnamed (s, h, u) =
    let none = unnamed n in
    let some = subst (λ (j : ℕ). 0 < slot_names (slot g.slots j) n) (sym (only_one g.into s h)) u in
    omega (arith, none, some)

-- ---- frames that wait

module _ (m : typed.Module) (k : Facts) (i : ℕ) (x : World) (whole : IsWhole k x.heap) where
  abbrev AreLive : List Word → Type 0
  AreLive words = Live m k i x whole words

  -- ---- accounts

  module _ (names : ℕ → ℕ) where
    by_blocks : (f : Frame) (p : ℕ)
        → ((b : ℕ) → word_at f.words (pos p) ≡ Found (Refer (Some b)) → Accounted k i x.heap names (Refer (Some b)))
        → PlaceAccounted m k i x names f p
    by_blocks f p each None e = to_nothing
    by_blocks f p each (Some b) e = each b e

    bare_place : (f : Frame) (p : ℕ) → word_at f.words (pos p) ≡ Found (Refer None) → PlaceAccounted m k i x names f p
    bare_place f p e = by_blocks f p (λ b g. let z = same_block f.words p None b e g in absurd cc)

    idle_place : (f : Frame) (p : ℕ) → AreLive f.words → RefersIdly m.adts k f.words p → PlaceAccounted m k i x names f p
    idle_place f p live h = by_blocks f p (λ b e. idly_accounted m.adts k x.heap whole i names f.words p b live h e)

    -- words that refer to nothing are accounted for
    empty_words : (words : List Word) → ReferNowhere words → AreAccounted m k i x names words
    empty_words words empty =
        each_accounted k i x.heap names words (λ j b e. absurd (empty b (has_at words j (Refer (Some b)) e)))

    -- the word that is to refer to an answer, and the record that is to be its box
    so_place : (a : Answer) (f : Frame) (p : ℕ) → AreLive f.words → AnswerAccounted m k i x names a → RefersSo m k i x a f.words p
        → PlaceAccounted m k i x names f p
    so_place Awaited f p live done h = idle_place f p live h
    so_place (Referred r) f p live done h =
        by_blocks f p (λ b e.
        subst (λ (o : Option ℕ). Accounted k i x.heap names (Refer o)) (same_block f.words p r b h e) done)
    so_place (Filled words) f p live done h = idle_place f p live h

    so_words : (a : Answer) (words : List Word) → AnswerAccounted m k i x names a → FillsSo a words → AreAccounted m k i x names words
    so_words Awaited words done empty = empty_words words empty
    so_words (Referred r) words done empty = empty_words words empty
    so_words (Filled others) words done same = subst (λ (ws : List Word). AreAccounted m k i x names ws) (sym same) done

    -- the slot of an answer that is waited for
    answer_place : (a : Answer) (form : Form) (t : Ty) (f : Frame) (types : List Ty) (into : ℕ) (callee : Frame) (own : ℕ → List ℕ)
        → AnswerGoes m k i x a form t f types into callee own → AreLive f.words → AnswerAccounted m k i x names a
        → PlaceAccounted m k i x names f (reference_place m.adts types into)
    answer_place a Nowhere t f types into callee own goes live done = idle_place f (reference_place m.adts types into) live goes
    answer_place a AsNumber t f types into callee own goes live done = idle_place f (reference_place m.adts types into) live goes.0
    answer_place a AsReference t f types into callee own goes live done = so_place a f (reference_place m.adts types into) live done goes.0
    answer_place a Boxed t f types into callee own (c, inner, o, word, made, apart, fills) live done =
        by_blocks f (reference_place m.adts types into) (λ b e.
        let same : c ≡ b =
        let z : Some c ≡ Some b = same_block f.words (reference_place m.adts types into) (Some c) b o.word e in cc in
        subst (λ (j : ℕ). Accounted k i x.heap names (Refer (Some j))) same
        (to_inner c (Record inner) (is_inner (k.fact c) o.free) o.there (λ g. made) (so_words a inner done fills)))

    all_accounted : (a : Answer) (t : Ty) (callee : Frame) (gs : List code.Frame) (fs : List Frame)
        → AllWait m k i x a t callee gs fs → ((n : ℕ) → 0 < frames_name gs n → 0 < names n) → AreLive (all_words fs)
        → AnswerAccounted m k i x names a → AllAccounted k i x.heap names (all_words fs)
    all_accounted _ _ _ _ _ (none_waits a callee) named live done = none
    all_accounted _ _ _ _ _ (waits_below a t callee g f gs fs w rest) named live done =
        let mine : AreLive f.words = (λ b h. live b (has_first (frame_words f) (all_words fs) (Refer (Some b)) (inr h))) in
        several k i x.heap names (frame_words f) (all_words fs)
        (frame_accounted m k i x whole (g.into ∷ []) g f w.is names (λ n u. named n (omega (arith, u))) mine
        (bare_place f (spare_of m k i x w.is.function) w.spare)
        (λ s e.
        subst (λ (j : ℕ). PlaceAccounted m k i x names f (reference_place m.adts (types_of m w.is.function) j)) (only_one g.into s e)
        (answer_place a (form_of t) t f (types_of m w.is.function) g.into callee w.is.words.own w.answer mine done)))
        (all_accounted Awaited g.answer f gs fs rest (λ n u. named n (omega (arith, u)))
        (λ b h. live b (has_second (frame_words f) (all_words fs) (Refer (Some b)) h)) tt)

  -- ---- ways

  -- a frame that waits leads to all that it names, since its busy slot names nothing
  one_leads : (n : ℕ) (a : Answer) (t : Ty) (callee : Frame) (g : code.Frame) (f : Frame) → Waits m k i x a g f t callee
      → AreLive f.words → 0 < frame_names g n → LeadTo k x.heap n (frame_words f)
  one_leads n a t callee g f w live h = elim (frame_leads m k i x whole (g.into ∷ []) g f w.is n live h) [
    | inl y ↦ y
    | inr y ↦ absurd (not_named g n w.unnamed y)
  ]

  all_lead : (n : ℕ) (a : Answer) (t : Ty) (callee : Frame) (gs : List code.Frame) (fs : List Frame)
      → AllWait m k i x a t callee gs fs → AreLive (all_words fs) → 0 < frames_name gs n → LeadTo k x.heap n (all_words fs)
  all_lead n _ _ _ _ _ (none_waits a callee) live h = absurd (omega (arith, h))
  all_lead n _ _ _ _ _ (waits_below a t callee g f gs fs w rest) live h = elim (either (frame_names g n) (frames_name gs n) h) [
    | inl y ↦
        first_leads k x.heap n (frame_words f) (all_words fs)
        (one_leads n a t callee g f w (λ b j. live b (has_first (frame_words f) (all_words fs) (Refer (Some b)) (inr j))) y)
    | inr y ↦
        second_leads k x.heap n (frame_words f) (all_words fs)
        (all_lead n Awaited g.answer f gs fs rest (λ b j. live b (has_second (frame_words f) (all_words fs) (Refer (Some b)) j)) y)
  ]

  -- ---- a process

  module _ (busy : List ℕ) (a : Answer) (p : code.Process) (q : Process) (is : FrameIs m k i x busy p.frame q.frame)
      (waits : AllWait m k i x a p.frame.answer q.frame p.below q.below)
      (live : (b : ℕ) → 0 < machine.names q b → there (at x.heap b) ≡ true) where
    words_live : AreLive (process_words q)
    words_live b h = live b (subst (λ n. 0 < n) (process_counts q b) (has_counts (process_words q) b h))

    frame_live : AreLive q.frame.words
    frame_live b h = words_live b (has_first (frame_words q.frame) _ (Refer (Some b)) (inr h))

    below_live : AreLive (all_words q.below)
    below_live b h =
        words_live b (has_second (frame_words q.frame) _ (Refer (Some b)) (has_first (all_words q.below) _ (Refer (Some b)) h))

    pub process_accounted : OnTheWay m k i x (process_names p) busy a q is.function
        → AllAccounted k i x.heap (process_names p) (process_words q)
    process_accounted way =
        several k i x.heap (process_names p) (frame_words q.frame) (all_words q.below ++ all_words q.made)
        (frame_accounted m k i x whole busy p.frame q.frame is (process_names p) (λ n u. omega (arith, u)) frame_live
        way.spare way.slots)
        (several k i x.heap (process_names p) (all_words q.below) (all_words q.made)
        (all_accounted (process_names p) a p.frame.answer q.frame p.below q.below waits (λ n u. omega (arith, u)) below_live way.answer)
        way.made)

    pub process_leads : BusyLead m k i x busy p q → (n : ℕ) → 0 < process_names p n → LeadTo k x.heap n (process_words q)
    process_leads busy_lead n h = elim (either (frame_names p.frame n) (frames_name p.below n) h) [
      | inl y ↦ elim (frame_leads m k i x whole busy p.frame q.frame is n frame_live y) [
        | inl z ↦ first_leads k x.heap n (frame_words q.frame) (all_words q.below ++ all_words q.made) z
        | inr z ↦ busy_lead z.0 n z.1 z.2
      ]
      | inr y ↦
          second_leads k x.heap n (frame_words q.frame) (all_words q.below ++ all_words q.made)
          (first_leads k x.heap n (all_words q.below) (all_words q.made)
          (all_lead n a p.frame.answer q.frame p.below q.below waits below_live y))
    ]

    pub process_is_held : OnTheWay m k i x (process_names p) busy a q is.function → BusyLead m k i x busy p q
        → Holds k (λ j. j ≡ i) (graph inside x.heap) (process_names p) (machine.names q)
    process_is_held way busy_lead =
        process_holds k i x.heap (process_names p) q (process_accounted way)
        (λ n h. process_leads busy_lead n h) (record { closed = whole.closed }) live

  -- nothing is on its way but an answer that is waited for
  none_made : (busy : List ℕ) (p : code.Process) (q : Process) (is : FrameIs m k i x busy p.frame q.frame)
      → ((s : ℕ) → Has busy s → PlaceAccounted m k i x (process_names p) q.frame (reference_place m.adts (types_of m is.function) s))
      → word_at q.frame.words (pos (spare_of m k i x is.function)) ≡ Found (Refer None) → q.made ≡ []
      → OnTheWay m k i x (process_names p) busy Awaited q is.function
  none_made busy p q is busy_slots spare made = record {
    slots = busy_slots;
    spare = bare_place (process_names p) q.frame (spare_of m k i x is.function) spare;
    made = subst (λ (fs : List Frame). AllAccounted k i x.heap (process_names p) (all_words fs)) (sym made) none;
    answer = tt;
  }

-- ---- the laws

module _ (m : typed.Module) (k : Facts) (i : ℕ) (w : Heap HeapValue) (x : World) (q : Process) (a : IsAmong m k i x w q) where
  whole : IsWhole k x.heap
  whole = record {
    carriers = λ n d b fact e. (a.alike.carriers n d b fact e).0;
    closed = λ c b live u. a.alike.closed.closed c b live u;
  }

  ready : (p : code.Process) → Ready m k i x p q → Holds k (λ j. j ≡ i) (graph inside x.heap) (process_names p) (machine.names q)
  ready p s =
      process_is_held m k i x whole [] Awaited p q s.stands.is s.stands.waits a.live
      (none_made m k i x whole [] p q s.stands.is (λ n h. absurd h) s.spare s.none_made) (λ b n h. absurd h)

  asking : (p : code.Process) → Asking m k i x p q → Holds k (λ j. j ≡ i) (graph inside x.heap) (process_names p) (machine.names q)
  asking p s =
      process_is_held m k i x whole (p.frame.into ∷ []) Awaited p q s.is s.waits a.live
      (none_made m k i x whole (p.frame.into ∷ []) p q s.is slot_idle s.spare s.none_made)
      (λ b n h u. absurd (not_named p.frame n s.unnamed (b, h, u)))
    where
      live : Live m k i x whole q.frame.words
      live = frame_live m k i x whole (p.frame.into ∷ []) Awaited p q s.is s.waits a.live

      slot_idle : (n : ℕ) → Has (p.frame.into ∷ []) n
          → PlaceAccounted m k i x (process_names p) q.frame (reference_place m.adts (types_of m s.is.function) n)
      slot_idle n h =
          subst (λ (j : ℕ). PlaceAccounted m k i x (process_names p) q.frame (reference_place m.adts (types_of m s.is.function) j))
          (only_one p.frame.into n h)
          (idle_place m k i x whole (process_names p) q.frame (reference_place m.adts (types_of m s.is.function) p.frame.into) live
          s.refers)

pub stands_rooted : StandsAreRooted
stands_rooted m = record {
  accounted = λ k i w x busy a p q s among way.
      process_accounted m k i x (whole m k i w x q among) busy a p q s.is s.waits among.live way;
  leads = λ k i w x busy a p q s among busy_lead n h.
      process_leads m k i x (whole m k i w x q among) busy a p q s.is s.waits among.live busy_lead n h;
  holds = λ k i w x busy a p q s among way busy_lead.
      process_is_held m k i x (whole m k i w x q among) busy a p q s.is s.waits among.live way busy_lead;
  ready_holds = λ k i w x p q s among. ready m k i w x q among p s;
  asking_holds = λ k i w x p q s among. asking m k i w x q among p s;
}
