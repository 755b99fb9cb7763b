-- The blocks that a process has as its own are reached from its words by way of blocks of its own; so they are there while its words refer
-- to what is there.
use Rattle.std.proofs.Common.{◌≡◌, ℕ, zero, suc, ◌+◌, ◌<◌, ◌≤◌, pos, true, List, [], ◌∷◌, length, Option, None, Some, inl, inr}
use Rattle.std.proofs.Common.{refl, sym, ap, subst, arith, ◌∙◌}
use Rattle.std.specs.Prelude.{slice_get}
use Rattle.heap_model.specs.Kept.{IsClosed}
use Rattle.heap_model.specs.Heap.{Heap, at, there, in_one, graph}
use Rattle.heap_model.specs.Facts.{Fact, IsFree, Free, Inner}
use Rattle.heap_model.specs.Alike.{Holds}
use Rattle.heap_model.specs.Worlds.{Leaves}
use Rattle.heap_model.proofs.Alike.{is_inner}
use Rattle.limbo_types.specs.Types.{Ty}
use Rattle.limbo_layout.specs.Adts.{Def, Has}
use Rattle.limbo_layout.proofs.Rooms.{has_left, has_right, has_cases}
use Rattle.limbo_typed.specs.Typed as typed
use Rattle.limbo_meaning.specs.Values.{Value}
use Rattle.core_code.specs.Machine as code
use Rattle.core_code.specs.Slots as core
use Rattle.core_typing.specs.Held as held
use Rattle.core_typing.specs.Held.{Held}
use Rattle.dis_meaning.specs.Words.{Word, Refer, Found, word_at}
use Rattle.dis_meaning.specs.Counts.{in_words, in_frames}
use Rattle.dis_meaning.specs.Process.{Frame, Process}
use Rattle.dis_memory.specs.Blocks.{Block, Record, World, words_in}
use Rattle.dis_memory.specs.Naming as machine
use Rattle.dis_memory.specs.Naming.{inside}
use Rattle.value_words.specs.Facts.{Facts}
use Rattle.value_words.proofs.Bytes.{word_found}
use Rattle.value_roots.specs.Accounts.{InnerOf, near, far, frame_words, all_words, process_words}
use Rattle.value_roots.proofs.Words.{has_counts, has_first, has_second}
use Rattle.value_frames.specs.Frames.{Form, Nowhere, AsNumber, AsReference, Boxed, form_of, number_place, reference_place}
use Rattle.value_frames.specs.Standing.{IsOwn, WordsAre}
use Rattle.value_frames.specs.Standing.{SlotStands, a_value, a_forming, a_decision, a_loop, ChainStands, no_chain, a_chain}
use Rattle.value_frames.specs.Standing.{TailStands, no_more, one_more, RegionStands, no_slot, more_slots}
use Rattle.value_frames.proofs.Beginning.{is_inside}
use Rattle.value_follows.specs.Stands.{types_of, Answer, FrameIs, AnswerGoes, AllWait, none_waits, waits_below, Stands, Asking}
use Rattle.value_follows.specs.Kept.{FrameOwns, IsAnswerBox, WaitingOwn, OwnedIn, OwnedAsking}

-- a word that is read is one of them
has_got : {A : Type 0} (xs : List A) (n : ℕ) (a : A) → slice_get xs n ≡ Some a → Has xs a
has_got [] n a e = absurd cc
has_got (y ∷ xs) zero a e = inl (let z : Some y ≡ Some a = e in cc)
has_got (y ∷ xs) (suc n) a e = inr (has_got xs n a e)

has_word : (words : List Word) (p : ℕ) (w : Word) → word_at words (pos p) ≡ Found w → Has words w
has_word words p w e = has_got words _ w (word_found words p w e).1

is_past : {A : Type 0} (xs : List A) (n : ℕ) → slice_get xs n ≡ None → length xs ≤ n
is_past [] n e = omega arith
is_past (x ∷ xs) zero e = absurd cc
is_past (x ∷ xs) (suc n) e = let l = is_past xs n e in omega (arith, l)

module _ (k : Facts) (i : ℕ) (x : Heap Block) where
  -- A block that stands for nothing is reached from words, by a word that refers to it or through others that process i made.
  data OwnWay : List Word → (b : ℕ) → Type 0 where
    nearest : (words : List Word) (b : ℕ) → Has words (Refer (Some b)) → Free k b → OwnWay words b
    onward : (words : List Word) (b c : ℕ) (block : Block) → Has words (Refer (Some c)) → Free k c → k.maker c ≡ Some i
        → at x c ≡ Some block → OwnWay (words_in block) b → OwnWay words b

  way_inner : (words : List Word) (b : ℕ) → OwnWay words b → InnerOf k x words b
  way_inner _ _ (nearest words b h f) = near words b h (is_inner (k.fact b) f)
  way_inner _ _ (onward words b c block h f made e way) =
      far words b c block h (is_inner (k.fact c) f) e (way_inner (words_in block) b way)

  inner_more : (ws us : List Word) (b : ℕ) → ((w : Word) → Has ws w → Has us w) → InnerOf k x ws b → InnerOf k x us b
  inner_more ws us b has (near _ _ h inner) = near us b (has _ h) inner
  inner_more ws us b has (far _ _ c block h inner e way) = far us b c block (has _ h) inner e way

  -- These are there, and so is what inner blocks among them refer to: where process i is left what is its own, what is reached from them
  -- is among them.
  module _ (k' : Facts) (x' : Heap Block) (left : Leaves i k k' x x') (kept : ℕ → Type 0)
      (live : (b : ℕ) → kept b → there (at x' b) ≡ true)
      (within : (b c : ℕ) → kept b → Inner k' b → 0 < in_one inside (at x' b) c → kept c) where
    record IsStill (c : ℕ) (block : Block) : Type 0 where
      place : at x' c ≡ Some block
      inner : Inner k' c

    still : (c : ℕ) (block : Block) → Free k c → k.maker c ≡ Some i → at x c ≡ Some block → kept c → IsStill c block
    still c block f made e u = elim (left.free c f made) [
      | inl w ↦ record {
        place = w.1 ∙ e;
        inner = is_inner (k'.fact c) (subst (λ (o : Option (Fact Block)). IsFree o) (sym w.0) f);
      }
      | inr w ↦ absurd (let z = sym (ap there w.1) ∙ live c u in cc)
    ]

    way_kept : (words : List Word) (b : ℕ) → OwnWay words b → ((q : ℕ) → 0 < in_words q words → kept q) → kept b
    way_kept _ _ (nearest words b h f) all = all b (has_counts words b h)
    way_kept _ _ (onward words b c block h f made e way) all =
        let u = all c (has_counts words c h) in
        let s = still c block f made e u in
        way_kept (words_in block) b way (λ q v. within c q u s.inner (subst (λ n. 0 < n) (sym (ap (λ o. in_one inside o q) s.place)) v))

  -- ---- what a slot has

  module _ (defs : List Def) (frame b : ℕ) where
    abbrev AreMade : List ℕ → Type 0
    AreMade own = (q : ℕ) → Has own q → k.maker q ≡ Some i

    own_last : (words : List Word) (p size : ℕ) (offsets : List ℕ) (q : ℕ) (inner : List Word)
        → IsOwn defs k x frame words p size offsets q inner → q ≡ b → OwnWay words b
    own_last words p size offsets q inner o same =
        subst (λ (n : ℕ). OwnWay words n) same (nearest words q (has_word words p _ o.word) o.free)

    only_one : (q : ℕ) → Has (q ∷ []) b → q ≡ b
    only_one q (inl e) = e
    only_one q (inr i) = absurd i

    own_onward : (words : List Word) (p size : ℕ) (offsets : List ℕ) (q : ℕ) (inner : List Word)
        → IsOwn defs k x frame words p size offsets q inner → k.maker q ≡ Some i → OwnWay inner b → OwnWay words b
    own_onward words p size offsets q inner o made way = onward words b q (Record inner) (has_word words p _ o.word) o.free made o.there way

    mutual
      slot_way : (words : List Word) (n r : ℕ) (h : Held) (l : core.Slot) (own : List ℕ) → AreMade own → Has own b
          → SlotStands defs k x frame words n r h l own → OwnWay words b
      slot_way _ _ _ _ _ _ made i (a_value words n r t live v s m) = absurd i
      slot_way _ _ _ _ _ _ made i (a_forming words inner n r q t variant ks us live vs o f) =
          own_last words r _ _ q inner o (only_one q i)
      slot_way _ _ _ _ _ _ made i (a_decision words n r d e f) = absurd i
      slot_way _ _ _ _ _ _ made i (a_loop words n r next gs rs own e c) = chain_way words r gs rs own made i c

      chain_way : (words : List Word) (p : ℕ) (hs : held.Regions) (gs : core.Regions) (own : List ℕ) → AreMade own → Has own b
          → ChainStands defs k x frame words p hs gs own → OwnWay words b
      chain_way _ _ _ _ _ made i (no_chain words p e) = absurd i
      chain_way _ _ _ _ _ made (inl i) (a_chain words inner p q last h hs g gs own more o e first rest) =
          own_last words p _ _ q inner o i
      chain_way _ _ _ _ _ made (inr i) (a_chain words inner p q last h hs g gs own more o e first rest) =
          own_onward words p _ _ q inner o (made q (inl refl)) (elim (has_cases own more b i) [
            | inl j ↦ region_way inner 8 h g own (λ n u. made n (inr (has_left own more n u))) j first
            | inr j ↦ tail_way inner 0 last hs gs more (λ n u. made n (inr (has_right own more n u))) j rest
          ])

      tail_way : (words : List Word) (p : ℕ) (last : Option ℕ) (hs : held.Regions) (gs : core.Regions) (own : List ℕ) → AreMade own
          → Has own b → TailStands defs k x frame words p last hs gs own → OwnWay words b
      tail_way _ _ _ _ _ _ made i (no_more words p e) = absurd i
      tail_way _ _ _ _ _ _ made (inl i) (one_more words inner p q last h hs g gs own more o e first rest) =
          own_last words p _ _ q inner o i
      tail_way _ _ _ _ _ _ made (inr i) (one_more words inner p q last h hs g gs own more o e first rest) =
          own_onward words p _ _ q inner o (made q (inl refl)) (elim (has_cases own more b i) [
            | inl j ↦ region_way inner 8 h g own (λ n u. made n (inr (has_left own more n u))) j first
            | inr j ↦ tail_way inner 0 last hs gs more (λ n u. made n (inr (has_right own more n u))) j rest
          ])

      region_way : (words : List Word) (p : ℕ) (h : held.Region) (g : core.Region) (own : List ℕ) → AreMade own → Has own b
          → RegionStands defs k x frame words p h g own → OwnWay words b
      region_way _ _ _ _ _ made i (no_slot words p) = absurd i
      region_way _ _ _ _ _ made i (more_slots words p h hs s g own more one others) =
          elim (has_cases own more b i) [
            | inl j ↦ slot_way words p (p + 4) h s own (λ n u. made n (has_left own more n u)) j one
            | inr j ↦ region_way words (p + 8) hs g more (λ n u. made n (has_right own more n u)) j others
          ]

    words_way : (busy : List ℕ) (types : List Ty) (known : held.Slots) (variables : List Value) (slots : core.Slots) (words : List Word)
        (are : WordsAre defs k x frame busy types known variables slots words) (s : ℕ) → AreMade (are.own s) → Has (are.own s) b
        → OwnWay words b
    words_way busy types known variables slots words are s made i = go (slice_get slots s) refl (slice_get known s) refl
      where
        -- a busy slot has none
        free : Has busy s → ⊥
        free e = subst (λ (own : List ℕ). Has own b) (are.busy_bare s e) i

        go : (l : Option core.Slot) → slice_get slots s ≡ l → (h : Option Held) → slice_get known s ≡ h → OwnWay words b
        go (Some l) e (Some h) f =
            slot_way words (number_place defs types s) (reference_place defs types s) h l (are.own s) made i (are.each s h l free f e)
        go (Some l) e None f =
            let a = are.as_many in
            let p = is_past known s f in
            let q = is_inside slots s l e in
            absurd (omega (arith, a, p, q))
        go None e h f = absurd (subst (λ (own : List ℕ). Has own b) (are.none_past s (is_past slots s e)) i)

-- ---- the frames of a process

frame_has : (f : Frame) (fs : List Frame) (w : Word) → Has fs f → Has f.words w → Has (all_words fs) w
frame_has f [] w i h = absurd i
frame_has f (g ∷ fs) w (inl e) h =
    has_first (frame_words g) (all_words fs) w (inr (subst (λ (d : Frame). Has d.words w) (sym e) h))
frame_has f (g ∷ fs) w (inr i) h = has_second (frame_words g) (all_words fs) w (frame_has f fs w i h)

frame_counts : (f : Frame) (fs : List Frame) (n : ℕ) → Has fs f → 0 < in_words n f.words → 0 < in_frames n fs
frame_counts f [] n i u = absurd i
frame_counts f (g ∷ fs) n (inl e) u =
    let v = subst (λ (d : Frame). 0 < in_words n d.words) (sym e) u in omega (arith, v)
frame_counts f (g ∷ fs) n (inr i) u = let v = frame_counts f fs n i u in omega (arith, v)

module _ (q : Process) (f : Frame) where
  process_has : Has (q.frame ∷ q.below) f → (w : Word) → Has f.words w → Has (process_words q) w
  process_has (inl e) w h =
      has_first (frame_words q.frame) _ w (inr (subst (λ (d : Frame). Has d.words w) (sym e) h))
  process_has (inr i) w h =
      has_second (frame_words q.frame) _ w (has_first (all_words q.below) (all_words q.made) w (frame_has f q.below w i h))

  process_counts : Has (q.frame ∷ q.below) f → (n : ℕ) → 0 < in_words n f.words → 0 < machine.names q n
  process_counts (inl e) n u = let v = subst (λ (d : Frame). 0 < in_words n d.words) (sym e) u in omega (arith, v)
  process_counts (inr i) n u = let v = frame_counts f q.below n i u in omega (arith, v)

module _ (m : typed.Module) (k : Facts) (i : ℕ) (x : World) (b : ℕ) where
  abbrev Way : List Word → Type 0
  Way words = OwnWay k i x.heap words b

  -- it is reached from one of these frames
  abbrev FromOne : List Frame → Type 0
  FromOne fs = (f : Frame) × Has fs f × Way f.words

  frame_way : {busy : List ℕ} {g : code.Frame} {f : Frame} (is : FrameIs m k i x busy g f) → FrameOwns m k i x is b → Way f.words
  frame_way {busy = busy} {g = g} {f = f} is (s, h) =
      words_way k i x.heap m.adts f.serial b busy (types_of m is.function) is.known g.variables g.slots f.words is.words s
      (λ q u. is.mine s q u) h

  box_way : (a : Answer) (form : Form) (t : Ty) (f : Frame) (types : List Ty) (into : ℕ) (callee : Frame) (own : ℕ → List ℕ)
      (goes : AnswerGoes m k i x a form t f types into callee own) → IsAnswerBox m k i x a form t f types into callee own goes b
      → Way f.words
  box_way a Nowhere t f types into callee own goes h = absurd h
  box_way a AsNumber t f types into callee own goes h = absurd h
  box_way a AsReference t f types into callee own goes h = absurd h
  box_way a Boxed t f types into callee own (q, inner, is, word, made, apart, fills) h =
      own_last k i x.heap m.adts f.serial b f.words (reference_place m.adts types into) _ _ q inner is h

  waiting_way : {a : Answer} {t : Ty} {callee : Frame} {gs : List code.Frame} {fs : List Frame} (ws : AllWait m k i x a t callee gs fs)
      → WaitingOwn m k i x ws b → FromOne fs
  waiting_way (none_waits a callee) h = absurd h
  waiting_way (waits_below a t callee g f gs fs w ws) (inl h) = (f, inl refl, frame_way w.is h)
  waiting_way (waits_below a t callee g f gs fs w ws) (inr (inl h)) =
      (f, inl refl, box_way a (form_of t) t f (types_of m w.is.function) g.into callee w.is.words.own w.answer h)
  waiting_way (waits_below a t callee g f gs fs w ws) (inr (inr h)) = let o = waiting_way ws h in (o.0, inr o.1, o.2)

  stands_way : {busy : List ℕ} {a : Answer} {p : code.Process} {q : Process} (s : Stands m k i x busy a p q) → OwnedIn m k i x s b
      → FromOne (q.frame ∷ q.below)
  stands_way {q = q} s (inl h) = (q.frame, inl refl, frame_way s.is h)
  stands_way s (inr h) = let o = waiting_way s.waits h in (o.0, inr o.1, o.2)

  asking_way : {p : code.Process} {q : Process} (a : Asking m k i x p q) → OwnedAsking m k i x a b → FromOne (q.frame ∷ q.below)
  asking_way {q = q} a (inl h) = (q.frame, inl refl, frame_way a.is h)
  asking_way a (inr h) = let o = waiting_way a.waits h in (o.0, inr o.1, o.2)

  -- ---- so it is reached from the words of the process, and is there

  one_inner : (q : Process) → FromOne (q.frame ∷ q.below) → InnerOf k x.heap (process_words q) b
  one_inner q o = inner_more k i x.heap o.0.words (process_words q) b (process_has q o.0 o.1) (way_inner k i x.heap o.0.words b o.2)

  one_kept : (k' : Facts) (x' : World) → Leaves i k k' x.heap x'.heap → (q : Process) (kept : ℕ → Type 0)
      → ((n : ℕ) → kept n → there (at x'.heap n) ≡ true)
      → ((n c : ℕ) → kept n → Inner k' n → 0 < in_one inside (at x'.heap n) c → kept c)
      → ((n : ℕ) → 0 < machine.names q n → kept n) → FromOne (q.frame ∷ q.below) → at x'.heap b ≡ None → ⊥
  one_kept k' x' left q kept live within all o gone =
      let u = way_kept k i x.heap k' x'.heap left kept live within o.0.words b o.2 (λ n v. all n (process_counts q o.0 o.1 n v)) in
      absurd (let z = sym (ap there gone) ∙ live b u in cc)

  one_there : (k' : Facts) (x' : World) → Leaves i k k' x.heap x'.heap → IsClosed (graph inside x'.heap) → (q : Process)
      → ((n : ℕ) → 0 < machine.names q n → there (at x'.heap n) ≡ true) → FromOne (q.frame ∷ q.below) → at x'.heap b ≡ None → ⊥
  one_there k' x' left closed q all o gone =
      one_kept k' x' left q (λ n. there (at x'.heap n) ≡ true) (λ n u. u) (λ n c u inner v. closed.closed n c u v) all o gone

  one_held : (k' : Facts) (x' : World) → Leaves i k k' x.heap x'.heap → (q : Process) (names : ℕ → ℕ)
      (h : Holds k' (λ j. j ≡ i) (graph inside x'.heap) names (machine.names q))
      → ((n : ℕ) → 0 < h.same.own n → there (at x'.heap n) ≡ true) → FromOne (q.frame ∷ q.below) → at x'.heap b ≡ None → ⊥
  one_held k' x' left q names h live o gone =
      one_kept k' x' left q (λ n. 0 < h.same.own n) live (λ n c u inner v. h.same.within n c u inner v) (λ n u. h.same.roots n u) o gone

  pub owned_reached : {busy : List ℕ} {a : Answer} {p : code.Process} {q : Process} (s : Stands m k i x busy a p q) → OwnedIn m k i x s b
      → InnerOf k x.heap (process_words q) b
  owned_reached {q = q} s h = one_inner q (stands_way s h)

  pub asking_reached : {p : code.Process} {q : Process} (a : Asking m k i x p q) → OwnedAsking m k i x a b
      → InnerOf k x.heap (process_words q) b
  asking_reached {q = q} a h = one_inner q (asking_way a h)

  module _ (k' : Facts) (x' : World) (left : Leaves i k k' x.heap x'.heap) {p : code.Process} {q : Process} where
    pub owned_there : IsClosed (graph inside x'.heap) → ((n : ℕ) → 0 < machine.names q n → there (at x'.heap n) ≡ true)
        → {busy : List ℕ} {a : Answer} (s : Stands m k i x busy a p q) → OwnedIn m k i x s b → at x'.heap b ≡ None → ⊥
    owned_there closed all s h gone = one_there k' x' left closed q all (stands_way s h) gone

    pub asking_there : IsClosed (graph inside x'.heap) → ((n : ℕ) → 0 < machine.names q n → there (at x'.heap n) ≡ true)
        → (a : Asking m k i x p q) → OwnedAsking m k i x a b → at x'.heap b ≡ None → ⊥
    asking_there closed all a h gone = one_there k' x' left closed q all (asking_way a h) gone

    module _ (names : ℕ → ℕ) (held : Holds k' (λ j. j ≡ i) (graph inside x'.heap) names (machine.names q))
        (live : (n : ℕ) → 0 < held.same.own n → there (at x'.heap n) ≡ true) where
      pub owned_held : {busy : List ℕ} {a : Answer} (s : Stands m k i x busy a p q) → OwnedIn m k i x s b → at x'.heap b ≡ None → ⊥
      owned_held s h gone = one_held k' x' left q names held live (stands_way s h) gone

      pub asking_held : (a : Asking m k i x p q) → OwnedAsking m k i x a b → at x'.heap b ≡ None → ⊥
      asking_held a h gone = one_held k' x' left q names held live (asking_way a h) gone
