-- A frame stands for the same where more is known and the blocks of its own are as they were.
use Rattle.std.proofs.Common.{◌≡◌, ℕ, zero, suc, ◌+◌, ◌≤◌, List, [], ◌∷◌, length, Option, None, Some, inl, inr, refl, sym, ap}
use Rattle.std.proofs.Common.{subst, arith, ◌∙◌}
use Rattle.std.specs.Prelude.{slice_get}
use Rattle.heap_model.specs.Heap.{Heap, at}
use Rattle.heap_model.specs.Facts.{Fact, Chars, Carrier, IsFree, Free}
use Rattle.heap_model.specs.Worlds.{Changes, Leaves}
use Rattle.process_model.specs.Follows.{Who, Among}
use Rattle.limbo_types.specs.Types.{Ty}
use Rattle.limbo_layout.specs.Adts.{Def, Has}
use Rattle.limbo_layout.specs.Layout.{nothing}
use Rattle.limbo_layout.specs.Laying.{rooms_of}
use Rattle.limbo_layout.proofs.Rooms.{has_left, has_right, has_cases}
use Rattle.limbo_meaning.specs.Values.{Value}
use Rattle.core_code.specs.Rooms.{rooms_in}
use Rattle.core_code.specs.Slots as core
use Rattle.core_typing.specs.Held as held
use Rattle.core_typing.specs.Held.{Held}
use Rattle.dis_meaning.specs.Words.{Word}
use Rattle.dis_memory.specs.Blocks.{Block, Record}
use Rattle.value_words.specs.Forms.{OwnedBy}
use Rattle.value_words.specs.Facts.{Facts, Grows}
use Rattle.value_words.proofs.Later.{stands_later, all_later}
use Rattle.value_frames.specs.Frames.{Form, Nowhere, AsNumber, AsReference, Boxed, form_of, linkage_bytes, number_place, reference_place}
use Rattle.value_frames.specs.Standing.{IsBox, IsForming, IsIdle, nothing_there, text_left, carrier_left, RefersIdly, ValueStands, IsOwn, WordsAre}
use Rattle.value_frames.specs.Standing.{SlotStands, a_value, a_forming, a_decision, a_loop, ChainStands, no_chain, a_chain}
use Rattle.value_frames.specs.Standing.{TailStands, no_more, one_more, RegionStands, no_slot, more_slots}
use Rattle.value_frames.specs.Slots.{IsKept}
use Rattle.value_frames.specs.Later.{AreMadeBy, FrameLater, FramesLater}
use Rattle.value_frames.proofs.Beginning.{is_inside}

module _ (defs : List Def) (k k' : Facts) (grows : Grows k k') where
  box_later : (t : Ty) (b : ℕ) (inner : List Word) → IsBox defs k t b inner → IsBox defs k' t b inner
  box_later t b inner i = record { carries = grows.facts b (Carrier (Record inner)) i.carries; kind = i.kind }

  idle_later : (r : Option ℕ) → IsIdle defs k r → IsIdle defs k' r
  idle_later _ nothing_there = nothing_there
  idle_later _ (text_left b text e) = text_left b text (grows.facts b (Chars text) e)
  idle_later _ (carrier_left b d e texts) =
      carrier_left b d (grows.facts b (Carrier d) e) (λ q i. let f = texts q i in (f.0, grows.facts q (Chars f.0) f.1))

  idly_later : (words : List Word) (p : ℕ) → RefersIdly defs k words p → RefersIdly defs k' words p
  idly_later words p h = (h.0, h.1, idle_later h.0 h.2)

  value_later : (words : List Word) (n r : ℕ) (f : Form) (t : Ty) (v : Value) → ValueStands defs k words n r f t v
      → ValueStands defs k' words n r f t v
  value_later words n r Nowhere t v h = (h.0, idly_later words r h.1)
  value_later words n r AsNumber t v h = (stands_later defs k k' words grows n t v h.0, idly_later words r h.1)
  value_later words n r AsReference t v h = stands_later defs k k' words grows r t v h
  value_later words n r Boxed t v h =
      (h.0, h.1, h.2, box_later t h.0 h.1 h.3, stands_later defs k k' h.1 grows 0 t v h.4)

  forming_later : (t : Ty) (variant : Option ℕ) (ks : List ℕ) (us : List Ty) (live : List ℕ) (vs : List Value) (inner : List Word)
      → IsForming defs k t variant ks us live vs inner → IsForming defs k' t variant ks us live vs inner
  forming_later t variant ks us live vs inner f = record {
    stands = stands_later defs k k' inner grows 0 t _ f.stands;
    as_many = f.as_many;
    typed = f.typed;
    named = f.named;
    names = f.names;
    only = f.only;
  }

  module _ (x x' : Heap Block) (frame : ℕ) where
    abbrev AreKept : List ℕ → Type 0
    AreKept own = (b : ℕ) → Has own b → IsKept k' x x' b

    own_later : (words : List Word) (p size : ℕ) (offsets : List ℕ) (b : ℕ) (inner : List Word) → IsKept k' x x' b
        → IsOwn defs k x frame words p size offsets b inner → IsOwn defs k' x' frame words p size offsets b inner
    own_later words p size offsets b inner kept o = record {
      word = o.word;
      there = kept.1 ∙ o.there;
      free = kept.0;
      formed = grows.forms b (OwnedBy frame) o.formed;
      kind = o.kind;
    }

    mutual
      pub slot_later : (words : List Word) (n r : ℕ) (h : Held) (l : core.Slot) (own : List ℕ) → AreKept own
          → SlotStands defs k x frame words n r h l own → SlotStands defs k' x' frame words n r h l own
      slot_later _ _ _ _ _ _ kept (a_value words n r t live v s m) =
          a_value words n r t live v (value_later words n r (form_of t) t v s) m
      slot_later _ _ _ _ _ _ kept (a_forming words inner n r b t variant ks us live vs o f) =
          a_forming words inner n r b t variant ks us live vs (own_later words r _ _ b inner (kept b (inl refl)) o)
          (forming_later t variant ks us live vs inner f)
      slot_later _ _ _ _ _ _ kept (a_decision words n r b e i) = a_decision words n r b e (idly_later words r i)
      slot_later _ _ _ _ _ _ kept (a_loop words n r next gs rs own e c) =
          a_loop words n r next gs rs own e (chain_later words r gs rs own kept c)

      chain_later : (words : List Word) (p : ℕ) (hs : held.Regions) (gs : core.Regions) (own : List ℕ) → AreKept own
          → ChainStands defs k x frame words p hs gs own → ChainStands defs k' x' frame words p hs gs own
      chain_later _ _ _ _ _ kept (no_chain words p e) = no_chain words p e
      chain_later _ _ _ _ _ kept (a_chain words inner p b last h hs g gs own more o e first rest) =
          a_chain words inner p b last h hs g gs own more (own_later words p _ _ b inner (kept b (inl refl)) o) e
          (region_later inner 8 h g own (λ q i. kept q (inr (has_left own more q i))) first)
          (tail_later inner 0 last hs gs more (λ q i. kept q (inr (has_right own more q i))) rest)

      tail_later : (words : List Word) (p : ℕ) (last : Option ℕ) (hs : held.Regions) (gs : core.Regions) (own : List ℕ) → AreKept own
          → TailStands defs k x frame words p last hs gs own → TailStands defs k' x' frame words p last hs gs own
      tail_later _ _ _ _ _ _ kept (no_more words p e) = no_more words p e
      tail_later _ _ _ _ _ _ kept (one_more words inner p b last h hs g gs own more o e first rest) =
          one_more words inner p b last h hs g gs own more (own_later words p _ _ b inner (kept b (inl refl)) o) e
          (region_later inner 8 h g own (λ q i. kept q (inr (has_left own more q i))) first)
          (tail_later inner 0 last hs gs more (λ q i. kept q (inr (has_right own more q i))) rest)

      region_later : (words : List Word) (p : ℕ) (h : held.Region) (g : core.Region) (own : List ℕ) → AreKept own
          → RegionStands defs k x frame words p h g own → RegionStands defs k' x' frame words p h g own
      region_later _ _ _ _ _ kept (no_slot words p) = no_slot words p
      region_later _ _ _ _ _ kept (more_slots words p h hs s g own more one others) =
          more_slots words p h hs s g own more
          (slot_later words p (p + 4) h s own (λ q i. kept q (has_left own more q i)) one)
          (region_later words (p + 8) hs g more (λ q i. kept q (has_right own more q i)) others)

    abbrev IsSame : (busy : List ℕ) (types : List Ty) (known : held.Slots) (variables : List Value) (slots : core.Slots)
        (words : List Word) (are : WordsAre defs k x frame busy types known variables slots words) → Type 0
    IsSame busy types known variables slots words are =
        (after : WordsAre defs k' x' frame busy types known variables slots words) × (after.own ≡ are.own)

    words_later : (busy : List ℕ) (types : List Ty) (known : held.Slots) (variables : List Value) (slots : core.Slots)
        (words : List Word) (are : WordsAre defs k x frame busy types known variables slots words) → ((s : ℕ) → AreKept (are.own s))
        → IsSame busy types known variables slots words are
    words_later busy types known variables slots words are kept = (
      record {
        laid = are.laid;
        kind = are.kind;
        values = all_later defs k k' words grows linkage_bytes nothing types (rooms_of (rooms_in defs) types) variables are.values;
        as_many = are.as_many;
        own = are.own;
        none_past = are.none_past;
        busy_bare = are.busy_bare;
        each = λ s h l free e f.
            slot_later words (number_place defs types s) (reference_place defs types s) h l (are.own s) (kept s) (are.each s h l free e f);
        single = are.single;
        apart = are.apart;
      },
      refl,
    )

-- ---- what a frame has as its own

is_past : {A : Type 0} (xs : List A) (n : ℕ) → slice_get xs n ≡ None → length xs ≤ n
is_past [] n e = omega arith
is_past (x ∷ xs) zero e = absurd cc
is_past (x ∷ xs) (suc n) e = let l = is_past xs n e in omega (arith, l)

module _ (defs : List Def) (k : Facts) (x : Heap Block) (frame b : ℕ) where
  abbrev IsFrames : Type 0
  IsFrames = Free k b × ((inner : List Word) × (at x b ≡ Some (Record inner))) × (k.form b ≡ Some (OwnedBy frame))

  own_frames : (words : List Word) (p size : ℕ) (offsets : List ℕ) (q : ℕ) (inner : List Word)
      → IsOwn defs k x frame words p size offsets q inner → q ≡ b → IsFrames
  own_frames words p size offsets q inner o same = (
    subst (λ (n : ℕ). Free k n) same o.free,
    (inner, ap (λ n. at x n) (sym same) ∙ o.there),
    ap (λ n. k.form n) (sym same) ∙ o.formed,
  )

  mutual
    slot_frames : (words : List Word) (n r : ℕ) (h : Held) (l : core.Slot) (own : List ℕ) → Has own b
        → SlotStands defs k x frame words n r h l own → IsFrames
    slot_frames _ _ _ _ _ _ i (a_value words n r t live v s m) = absurd i
    slot_frames _ _ _ _ _ _ (inl i) (a_forming words inner n r q t variant ks us live vs o f) = own_frames words r _ _ q inner o i
    slot_frames _ _ _ _ _ _ (inr i) (a_forming words inner n r q t variant ks us live vs o f) = absurd i
    slot_frames _ _ _ _ _ _ i (a_decision words n r d e f) = absurd i
    slot_frames _ _ _ _ _ _ i (a_loop words n r next gs rs own e c) = chain_frames words r gs rs own i c

    chain_frames : (words : List Word) (p : ℕ) (hs : held.Regions) (gs : core.Regions) (own : List ℕ) → Has own b
        → ChainStands defs k x frame words p hs gs own → IsFrames
    chain_frames _ _ _ _ _ i (no_chain words p e) = absurd i
    chain_frames _ _ _ _ _ (inl i) (a_chain words inner p q last h hs g gs own more o e first rest) =
        own_frames words p _ _ q inner o i
    chain_frames _ _ _ _ _ (inr i) (a_chain words inner p q last h hs g gs own more o e first rest) =
        elim (has_cases own more b i) [
          | inl j ↦ region_frames inner 8 h g own j first
          | inr j ↦ tail_frames inner 0 last hs gs more j rest
        ]

    tail_frames : (words : List Word) (p : ℕ) (last : Option ℕ) (hs : held.Regions) (gs : core.Regions) (own : List ℕ) → Has own b
        → TailStands defs k x frame words p last hs gs own → IsFrames
    tail_frames _ _ _ _ _ _ i (no_more words p e) = absurd i
    tail_frames _ _ _ _ _ _ (inl i) (one_more words inner p q last h hs g gs own more o e first rest) =
        own_frames words p _ _ q inner o i
    tail_frames _ _ _ _ _ _ (inr i) (one_more words inner p q last h hs g gs own more o e first rest) =
        elim (has_cases own more b i) [
          | inl j ↦ region_frames inner 8 h g own j first
          | inr j ↦ tail_frames inner 0 last hs gs more j rest
        ]

    region_frames : (words : List Word) (p : ℕ) (h : held.Region) (g : core.Region) (own : List ℕ) → Has own b
        → RegionStands defs k x frame words p h g own → IsFrames
    region_frames _ _ _ _ _ i (no_slot words p) = absurd i
    region_frames _ _ _ _ _ i (more_slots words p h hs s g own more one others) =
        elim (has_cases own more b i) [
          | inl j ↦ slot_frames words p (p + 4) h s own j one
          | inr j ↦ region_frames words (p + 8) hs g more j others
        ]

module _ (defs : List Def) (k : Facts) (x : Heap Block) (frame : ℕ) (busy : List ℕ) (types : List Ty) (known : held.Slots)
    (variables : List Value) (slots : core.Slots) (words : List Word)
    (are : WordsAre defs k x frame busy types known variables slots words) where
  all_frames : (s b : ℕ) → Has (are.own s) b → IsFrames defs k x frame b
  all_frames s b i = go (slice_get slots s) refl (slice_get known s) refl
    where
      -- a busy slot has none
      free : Has busy s → ⊥
      free e = subst (λ (own : List ℕ). Has own b) (are.busy_bare s e) i

      go : (l : Option core.Slot) → slice_get slots s ≡ l → (h : Option Held) → slice_get known s ≡ h → IsFrames defs k x frame b
      go (Some l) e (Some h) f =
          slot_frames defs k x frame b words (number_place defs types s) (reference_place defs types s) h l (are.own s) i
          (are.each s h l free f e)
      go (Some l) e None f =
          let m = are.as_many in
          let p = is_past known s f in
          let q = is_inside slots s l e in
          absurd (omega (arith, m, p, q))
      go None e h f = absurd (subst (λ (own : List ℕ). Has own b) (are.none_past s (is_past slots s e)) i)

  -- ---- while others step

  module _ (k' : Facts) (x' : Heap Block) (j : ℕ) (made : AreMadeBy k j are.own) where
    abbrev IsSameMade : Type 0
    IsSameMade =
        (after : WordsAre defs k' x' frame busy types known variables slots words) × (after.own ≡ are.own) × AreMadeBy k' j after.own

    same_by : Grows k k' → ((s b : ℕ) → Has (are.own s) b → IsKept k' x x' b) → IsSameMade
    same_by grows kept =
        let (after, same) = words_later defs k k' grows x x' frame busy types known variables slots words are kept in
        (after, same, subst (λ (own : ℕ → List ℕ). AreMadeBy k' j own) (sym same) (λ s b i. grows.makers b j (made s b i)))

    free_still : (q : ℕ) → k'.fact q ≡ k.fact q → Free k q → Free k' q
    free_still q e f = subst (λ (o : Option (Fact Block)). IsFree o) (sym e) f

    by_others : (these : Who) → Changes (Among these) k k' x x' → (Among these j → ⊥) → IsSameMade
    by_others these c not = same_by c.grows (λ s b i.
        let f = (all_frames s b i).0 in
        let w = c.free b j f (made s b i) not in
        (free_still b w.0 f, w.1))

    by_leaving : Leaves j k k' x x' → ((s b : ℕ) → Has (are.own s) b → at x' b ≡ None → ⊥) → IsSameMade
    by_leaving l there = same_by l.grows (λ s b i.
        let f = (all_frames s b i).0 in
        elim (l.free b f (made s b i)) [
          | inl w ↦ (free_still b w.0 f, w.1)
          | inr w ↦ absurd (there s b i w.1)
        ])

  frame_later : FrameLater defs k x frame busy types known variables slots words are
  frame_later = record {
    owned = all_frames;
    later = λ k' x' grows kept. words_later defs k k' grows x x' frame busy types known variables slots words are kept;
    others = λ k' x' j these made c not. by_others k' x' j made these c not;
    left = λ k' x' j made l there. by_leaving k' x' j made l there;
  }

pub frames_later : FramesLater
frames_later = λ defs k x frame busy types known variables slots words are.
    frame_later defs k x frame busy types known variables slots words are
