-- What is held of the blocks that slots have as their own, and chains that get one record more behind their last.
use Rattle.std.proofs.Common.{◌≡◌, ◌≢◌, ℕ, pos, ◌+◌, List, [], ◌∷◌, ◌++◌, Option, Some, None, refl, sym, ap, ◌∙◌, subst, append_assoc, inl, inr}
use Rattle.heap_model.specs.Heap.{Heap, at}
use Rattle.heap_model.specs.Facts.{Free}
use Rattle.limbo_layout.specs.Adts.{Def, Has}
use Rattle.limbo_layout.proofs.Rooms.{has_left, has_right, has_cases}
use Rattle.core_code.specs.Slots as core
use Rattle.core_code.specs.Slots.{Regions, NoRegion, MoreRegions}
use Rattle.core_typing.specs.Held as held
use Rattle.core_typing.specs.Held.{Held, slots_in}
use Rattle.dis_meaning.specs.Words.{Word, Refer, Found, word_at}
use Rattle.dis_memory.specs.Blocks.{Block, Record}
use Rattle.value_words.specs.Forms.{OwnedBy}
use Rattle.value_words.specs.Facts.{Facts, Grows}
use Rattle.value_frames.specs.Frames.{turn_bytes, turn_references}
use Rattle.value_frames.specs.Types.{AreOf}
use Rattle.value_frames.specs.Slots.{IsKept}
use Rattle.value_frames.specs.Standing.{Single, IsOwn, last_of, SlotStands, a_value, a_forming, a_decision, a_loop, ChainStands, no_chain, a_chain}
use Rattle.value_frames.specs.Standing.{TailStands, no_more, one_more, RegionStands, no_slot, more_slots}
use Rattle.value_follows.proofs.RootedValues.{word_has}
use Rattle.rows_chaining.proofs.Chains.{region_stays}
use Rattle.rows_chaining.proofs.Regions.{single_apart, singles}

-- ---- what a slot has as its own is among what its words lead to through blocks that one process made

module _ (defs : List Def) (k : Facts) (i : ℕ) (x : Heap Block) (frame : ℕ) (kept : ℕ → Type 0)
    (far : (c d : ℕ) (ws : List Word) → kept c → Free k c → k.maker c ≡ Some i → at x c ≡ Some (Record ws) → Has ws (Refer (Some d)) → kept d) where
  abbrev AreMade : List ℕ → Type 0
  AreMade own = (d : ℕ) → Has own d → k.maker d ≡ Some i

  abbrev All : List Word → Type 0
  All words = (d : ℕ) → Has words (Refer (Some d)) → kept d

  own_here : (words : List Word) (p size : ℕ) (offsets : List ℕ) (q : ℕ) (inner : List Word) → IsOwn defs k x frame words p size offsets q inner
      → All words → kept q
  own_here words p size offsets q inner o all = all q (word_has words p (Refer (Some q)) o.word)

  within : (words : List Word) (p size : ℕ) (offsets : List ℕ) (q : ℕ) (inner : List Word) → IsOwn defs k x frame words p size offsets q inner
      → k.maker q ≡ Some i → All words → All inner
  within words p size offsets q inner o made all d h = far q d inner (own_here words p size offsets q inner o all) o.free made o.there h

  mutual
    slot_kept : (words : List Word) (n r : ℕ) (h : Held) (l : core.Slot) (own : List ℕ) → SlotStands defs k x frame words n r h l own → AreMade own
        → All words → (b : ℕ) → Has own b → kept b
    slot_kept _ _ _ _ _ _ (a_value words n r t live v s m) made all b u = absurd u
    slot_kept _ _ _ _ _ _ (a_forming words inner n r q t variant ks us live vs o f) made all b (inl e) =
        subst kept e (own_here words r _ _ q inner o all)
    slot_kept _ _ _ _ _ _ (a_forming words inner n r q t variant ks us live vs o f) made all b (inr u) = absurd u
    slot_kept _ _ _ _ _ _ (a_decision words n r d e f) made all b u = absurd u
    slot_kept _ _ _ _ _ _ (a_loop words n r index gs rs own e c) made all b u = chain_kept words r gs rs own c made all b u

    chain_kept : (words : List Word) (p : ℕ) (hs : held.Regions) (gs : Regions) (own : List ℕ) → ChainStands defs k x frame words p hs gs own → AreMade own
        → All words → (b : ℕ) → Has own b → kept b
    chain_kept _ _ _ _ _ (no_chain words p e) made all b u = absurd u
    chain_kept _ _ _ _ _ (a_chain words inner p q last h hs g gs own more o e first rest) made all b (inl z) =
        subst kept z (own_here words p _ _ q inner o all)
    chain_kept _ _ _ _ _ (a_chain words inner p q last h hs g gs own more o e first rest) made all b (inr u) =
        let on = within words p _ _ q inner o (made q (inl refl)) all in
        elim (has_cases own more b u) [
          | inl j ↦ region_kept inner 8 h g own first (λ n v. made n (inr (has_left own more n v))) on b j
          | inr j ↦ tail_kept inner 0 last hs gs more rest (λ n v. made n (inr (has_right own more n v))) on b j
        ]

    pub tail_kept : (words : List Word) (p : ℕ) (last : Option ℕ) (hs : held.Regions) (gs : Regions) (own : List ℕ)
        → TailStands defs k x frame words p last hs gs own → AreMade own → All words → (b : ℕ) → Has own b → kept b
    tail_kept _ _ _ _ _ _ (no_more words p e) made all b u = absurd u
    tail_kept _ _ _ _ _ _ (one_more words inner p q last h hs g gs own more o e first rest) made all b (inl z) =
        subst kept z (own_here words p _ _ q inner o all)
    tail_kept _ _ _ _ _ _ (one_more words inner p q last h hs g gs own more o e first rest) made all b (inr u) =
        let on = within words p _ _ q inner o (made q (inl refl)) all in
        elim (has_cases own more b u) [
          | inl j ↦ region_kept inner 8 h g own first (λ n v. made n (inr (has_left own more n v))) on b j
          | inr j ↦ tail_kept inner 0 last hs gs more rest (λ n v. made n (inr (has_right own more n v))) on b j
        ]

    pub region_kept : (words : List Word) (p : ℕ) (h : held.Region) (g : core.Region) (own : List ℕ) → RegionStands defs k x frame words p h g own
        → AreMade own → All words → (b : ℕ) → Has own b → kept b
    region_kept _ _ _ _ _ (no_slot words p) made all b u = absurd u
    region_kept _ _ _ _ _ (more_slots words p h hs s g own more one others) made all b u =
        elim (has_cases own more b u) [
          | inl j ↦ slot_kept words p (p + 4) h s own one (λ n v. made n (has_left own more n v)) all b j
          | inr j ↦ region_kept words (p + 8) hs g more others (λ n v. made n (has_right own more n v)) all b j
        ]

-- ---- the last record of a chain

module _ (defs : List Def) (k : Facts) (x : Heap Block) (frame : ℕ) where
  -- it is one of its blocks
  pub last_own : (words : List Word) (p : ℕ) (last : Option ℕ) (hs : held.Regions) (rs : Regions) (own : List ℕ)
      → TailStands defs k x frame words p last hs rs own → (e : ℕ) → last ≡ Some e → Has own e
  last_own _ _ _ _ _ _ (no_more words p n) e f = absurd cc
  last_own _ _ _ _ _ _ (one_more words inner p b last h hs g gs own more is en r t) e f =
      go last refl f (λ u. last_own inner 0 last hs gs more t e u)
    where
      go : (o : Option ℕ) → last ≡ o → last_of last b ≡ Some e → (last ≡ Some e → Has more e) → Has (b ∷ own ++ more) e
      go None n f rec = let z : last_of None b ≡ Some e = ap (λ o. last_of o b) (sym n) ∙ f in inl (let y : Some b ≡ Some e = z in cc)
      go (Some l) n f rec =
          let z : Some l ≡ Some e = ap (λ o. last_of o b) (sym n) ∙ f in
          inr (has_right own more e (rec (n ∙ z)))

  -- What the last is, and that it has nothing behind it.
  pub record LastOf (e : ℕ) : Type 0 where
    pub inner : List Word
    pub there : at x e ≡ Some (Record inner)
    pub free : Free k e
    pub formed : k.form e ≡ Some (OwnedBy frame)
    pub none : word_at inner (pos 0) ≡ Found (Refer None)

  -- a chain whose tail has no last has no tail
  pub record NoTail (words : List Word) (p : ℕ) (hs : held.Regions) (rs : Regions) (own : List ℕ) : Type 0 where
    pub known : hs ≡ held.NoRegion
    pub none : rs ≡ NoRegion
    pub bare : own ≡ []
    pub word : word_at words (pos p) ≡ Found (Refer None)

  pub no_tail : (words : List Word) (p : ℕ) (last : Option ℕ) (hs : held.Regions) (rs : Regions) (own : List ℕ)
      → TailStands defs k x frame words p last hs rs own → last ≡ None → NoTail words p hs rs own
  no_tail _ _ _ _ _ _ (no_more words p n) f = record { known = refl; none = refl; bare = refl; word = n }
  no_tail _ _ _ _ _ _ (one_more words inner p b last h hs g gs own more is en r t) f = absurd (go last f)
    where
      go : (o : Option ℕ) → last_of o b ≡ None → ⊥
      go None f = let z : Some b ≡ None = f in cc
      go (Some l) f = let z : Some l ≡ None = f in cc

  pub last_is : (words : List Word) (p : ℕ) (last : Option ℕ) (hs : held.Regions) (rs : Regions) (own : List ℕ)
      → TailStands defs k x frame words p last hs rs own → (e : ℕ) → last ≡ Some e → LastOf e
  last_is _ _ _ _ _ _ (no_more words p n) e f = absurd cc
  last_is _ _ _ _ _ _ (one_more words inner p b last h hs g gs own more is en r t) e f =
      go last refl f (λ u. last_is inner 0 last hs gs more t e u)
    where
      go : (o : Option ℕ) → last ≡ o → last_of last b ≡ Some e → (last ≡ Some e → LastOf e) → LastOf e
      go None n f rec =
          let z : last_of None b ≡ Some e = ap (λ o. last_of o b) (sym n) ∙ f in
          let y : Some b ≡ Some e = z in
          let same : b ≡ e = cc in
          subst (λ d. LastOf d) same (record { inner = inner; there = is.there; free = is.free; formed = is.formed; none = (no_tail inner 0 last hs gs more t n).word })
      go (Some l) n f rec = let z : Some l ≡ Some e = ap (λ o. last_of o b) (sym n) ∙ f in rec (n ∙ z)

-- ---- it gets one more behind it

module _ (defs : List Def) (k : Facts) (x y : Heap Block) (frame e c : ℕ) (es others : List Word) (found : at x e ≡ Some (Record es))
    (there_then : at y e ≡ Some (Record others)) (apart : (d : ℕ) → d ≢ e → at y d ≡ at x d)
    (end_same : word_at others (pos 4) ≡ word_at es (pos 4)) (kind_same : (size : ℕ) (offsets : List ℕ) → AreOf size offsets es → AreOf size offsets others)
    (region_same : (hs : held.Region) (g : core.Region) (own : List ℕ) → RegionStands defs k y frame es 8 hs g own
    → RegionStands defs k y frame others 8 hs g own)
    (shape : held.Region) (region : core.Region)
    (new : TailStands defs k y frame others 0 (Some c) (held.MoreRegions shape held.NoRegion) (MoreRegions region NoRegion) (c ∷ [])) where
  grows : Grows k k
  grows = record { facts = λ n f e. e; makers = λ n j e. e; forms = λ n o e. e }

  abbrev Then : (words : List Word) (p : ℕ) (hs : held.Regions) (rs : Regions) (own : List ℕ) → Type 0
  Then words p hs rs own = TailStands defs k y frame words p (Some c) (held.chained hs shape) (core.chained rs region) own

  same_inner : (us vs : List Word) → Some (Record us) ≡ Some (Record vs) → us ≡ vs
  same_inner us vs f = let z : Record us ≡ Record vs = cc in cc

  pub tail_grows : (words : List Word) (p : ℕ) (last : Option ℕ) (hs : held.Regions) (rs : Regions) (own : List ℕ)
      → TailStands defs k x frame words p last hs rs own → last ≡ Some e → Single own → ((d : ℕ) → Has own d → Free k d)
      → Then words p hs rs (own ++ (c ∷ []))
  tail_grows _ _ _ _ _ _ (no_more words p n) f s free = absurd cc
  tail_grows _ _ _ _ _ _ (one_more words inner p b last h hs g gs own more is en r t) f s free =
      go last refl f
      (λ u. tail_grows inner 0 last hs gs more t u (singles own more s.1).1 (λ d v. free d (inr (has_right own more d v))))
    where
      longer : Then words p (held.MoreRegions h hs) (MoreRegions g gs) (b ∷ own ++ (more ++ (c ∷ [])))
          → Then words p (held.MoreRegions h hs) (MoreRegions g gs) ((b ∷ own ++ more) ++ (c ∷ []))
      longer t = subst (λ os. Then words p (held.MoreRegions h hs) (MoreRegions g gs) (b ∷ os)) (sym (append_assoc own more (c ∷ []))) t

      kept : (d : ℕ) → Has (b ∷ own ++ more) d → d ≢ e → IsKept k x y d
      kept d u ne = (free d u, apart d ne)

      go : (o : Option ℕ) → last ≡ o → last_of last b ≡ Some e → (last ≡ Some e → Then inner 0 hs gs (more ++ (c ∷ [])))
          → Then words p (held.MoreRegions h hs) (MoreRegions g gs) ((b ∷ own ++ more) ++ (c ∷ []))
      go None n f rec =
          let z : last_of None b ≡ Some e = ap (λ o. last_of o b) (sym n) ∙ f in
          let v : Some b ≡ Some e = z in
          let same : b ≡ e = cc in
          let none = no_tail defs k x frame inner 0 last hs gs more t n in
          let inner_so : inner ≡ es = same_inner inner es (sym is.there ∙ ap (at x) same ∙ found) in
          let others_kept : (d : ℕ) → Has own d → IsKept k x y d =
          λ d u. kept d (inr (has_left own more d u)) (λ w. s.0 (has_left own more b (subst (Has own) (w ∙ sym same) u))) in
          let first : RegionStands defs k y frame others 8 h g own =
          region_same h g own (subst (λ ws. RegionStands defs k y frame ws 8 h g own) inner_so
          (region_stays defs k k x y frame grows inner 8 h g own r others_kept)) in
          longer
          (subst (λ gs'. TailStands defs k y frame words p (Some c) (held.chained (held.MoreRegions h hs) shape) (core.chained (MoreRegions g gs') region) (b ∷ own ++ (more ++ (c ∷ []))))
          (sym none.none)
          (subst (λ hs'. TailStands defs k y frame words p (Some c) (held.chained (held.MoreRegions h hs') shape) (core.chained (MoreRegions g NoRegion) region) (b ∷ own ++ (more ++ (c ∷ []))))
          (sym none.known)
          (subst (λ os. TailStands defs k y frame words p (Some c) (held.MoreRegions h (held.MoreRegions shape held.NoRegion)) (MoreRegions g (MoreRegions region NoRegion)) (b ∷ own ++ (os ++ (c ∷ []))))
          (sym none.bare)
          (one_more words others p b (Some c) h (held.MoreRegions shape held.NoRegion) g (MoreRegions region NoRegion) own (c ∷ [])
          (record {
            word = is.word;
            there = ap (at y) same ∙ there_then;
            free = is.free;
            formed = is.formed;
            kind = kind_same _ _ (subst (AreOf (turn_bytes (slots_in h)) (turn_references (slots_in h))) inner_so is.kind);
          })
          (end_same ∙ ap (λ (ws : List Word). word_at ws (pos 4)) (sym inner_so) ∙ en) first new))))
      go (Some l) n f rec =
          let z : Some l ≡ Some e = ap (λ o. last_of o b) (sym n) ∙ f in
          let last_so : last ≡ Some e = n ∙ z in
          let behind = last_own defs k x frame inner 0 last hs gs more t e last_so in
          let ne : b ≢ e = λ w. s.0 (has_right own more b (subst (Has more) (sym w) behind)) in
          longer
          (one_more words inner p b (Some c) h (held.chained hs shape) g (core.chained gs region) own (more ++ (c ∷ []))
          (record { word = is.word; there = apart b ne ∙ is.there; free = is.free; formed = is.formed; kind = is.kind })
          en
          (region_stays defs k k x y frame grows inner 8 h g own r
          (λ d u. kept d (inr (has_left own more d u)) (λ w. single_apart own more e s.1 (subst (Has own) w u) behind)))
          (rec last_so))

-- ---- lists with one more at the end

pub single_more : (xs : List ℕ) (c : ℕ) → Single xs → (Has xs c → ⊥) → Single (xs ++ (c ∷ []))
single_more [] c s not = (λ h. h, tt)
single_more (x ∷ xs) c s not = (
  λ h. elim (has_cases xs (c ∷ []) x h) [
    | inl u ↦ s.0 u
    | inr (inl e) ↦ not (inl (sym e))
    | inr (inr u) ↦ absurd u
  ],
  single_more xs c s.1 (λ h. not (inr h)),
)
