-- Blocks that agree, one by one.
use Rattle.std.proofs.Common.{◌≡◌, ℕ, zero, suc, List, [], ◌∷◌, ◌++◌, length, refl, sym, ap, subst, ◌∙◌, ◌⊎◌, inl, inr, arith}
use Rattle.std.specs.Prelude.{Option, Some, None, slice_get, slice_set}
use Rattle.heap_model.specs.Heap.{Heap, at, stays}
use Rattle.heap_model.proofs.Heap.{stays_length, stays_part}
use Rattle.dis_meaning.specs.Words.{Word, Found, ◌>>=◌, or_wrong, dead_address}
use Rattle.dis_meaning.specs.World as today
use Rattle.dis_meaning.specs.Places as today_places
use Rattle.dis_memory.specs.Blocks as blocks
use Rattle.dis_memory.specs.Blocks.{Block, Instance, World, block, with_block, with_changed, reached, next_serial}
use Rattle.dis_memory.specs.Places.{data_at, with_data}
use Rattle.dis_memory.specs.Naming.{naming, inside}
use Rattle.dis_memory.specs.Sound.{IsThere}
use Rattle.dis_counts.specs.Alike.{block_of}
use Rattle.dis_agreement.specs.Agreement.{SameOrGone, SameBlocks, OneInstance, WorldsAgree}
use Rattle.dis_agreement.proofs.Following.{Follows, found, wrong, Same, finds, fails}

-- A block that is there is the same.
same_at : (cs : List today.Content) (os : Heap Block) (n : ℕ) (c : today.Content) (b : Block) → SameBlocks cs os → slice_get cs n ≡ Some c
    → at os n ≡ Some b → b ≡ block_of c
same_at [] os n c b s e f = absurd cc
same_at (d ∷ cs) [] n c b s e f = absurd s
same_at (d ∷ cs) (None ∷ os) zero c b s e f = absurd cc
same_at (d ∷ cs) (Some a ∷ os) zero c b s e f =
    let z : d ≡ c = cc in
    let y : a ≡ b = cc in
    subst (λ u. b ≡ block_of u) z (subst (λ u. u ≡ block_of d) y s.0)
same_at (d ∷ cs) (o ∷ os) (suc n) c b s e f = same_at cs os n c b s.1 e f

set_same : (cs : List today.Content) (os : Heap Block) (n : ℕ) (c : today.Content) → SameBlocks cs os
    → SameBlocks (slice_set cs n c) (slice_set os n (Some (block_of c)))
set_same [] [] n c s = s
set_same [] (o ∷ os) n c s = absurd s
set_same (d ∷ cs) [] n c s = absurd s
set_same (d ∷ cs) (o ∷ os) zero c s = (refl, s.1)
set_same (d ∷ cs) (o ∷ os) (suc n) c s = (s.0, set_same cs os n c s.1)

more_same : (cs : List today.Content) (os : Heap Block) (c : today.Content) → SameBlocks cs os
    → SameBlocks (cs ++ c ∷ []) (os ++ Some (block_of c) ∷ [])
more_same [] [] c s = (refl, tt)
more_same [] (o ∷ os) c s = absurd s
more_same (d ∷ cs) [] c s = absurd s
more_same (d ∷ cs) (o ∷ os) c s = (s.0, more_same cs os c s.1)

same_long : (cs : List today.Content) (os : Heap Block) → SameBlocks cs os → length os ≡ length cs
same_long [] [] s = refl
same_long [] (o ∷ os) s = absurd s
same_long (d ∷ cs) [] s = absurd s
same_long (d ∷ cs) (o ∷ os) s = ap suc (same_long cs os s.1)

pub same_serial : (x : today.World) (y : World) → WorldsAgree x y → next_serial y ≡ length x.blocks
same_serial x y w = same_long x.blocks y.heap w.blocks

-- What stays the one instance.
set_cases : (cs : List today.Content) (k : ℕ) (c : today.Content) (n : ℕ) (d : today.Content) → slice_get (slice_set cs k c) n ≡ Some d
    → ((n ≡ k) × (c ≡ d)) ⊎ (slice_get cs n ≡ Some d)
set_cases [] k c n d e = inr e
set_cases (b ∷ cs) zero c zero d e = inl (refl, (let z : c ≡ d = cc in z))
set_cases (b ∷ cs) zero c (suc n) d e = inr e
set_cases (b ∷ cs) (suc k) c zero d e = inr e
set_cases (b ∷ cs) (suc k) c (suc n) d e = go (set_cases cs k c n d e)
  where
    go : ((n ≡ k) × (c ≡ d)) ⊎ (slice_get cs n ≡ Some d) → ((suc n ≡ suc k) × (c ≡ d)) ⊎ (slice_get cs n ≡ Some d)
    go (inl (a, f)) = inl (ap suc a, f)
    go (inr f) = inr f

set_one : (cs : List today.Content) (k object : ℕ) (words : List Word) → OneInstance cs → k ≡ 0
    → OneInstance (slice_set cs k (today.Instance object words))
set_one cs k object words one z n a us e = go (set_cases cs k (today.Instance object words) n (today.Instance a us) e)
  where
    go : ((n ≡ k) × (today.Instance object words ≡ today.Instance a us)) ⊎ (slice_get cs n ≡ Some (today.Instance a us)) → n ≡ 0
    go (inl (f, g)) = f ∙ z
    go (inr f) = one n a us f

more_cases : (cs : List today.Content) (c : today.Content) (n : ℕ) (d : today.Content) → slice_get (cs ++ c ∷ []) n ≡ Some d
    → (c ≡ d) ⊎ (slice_get cs n ≡ Some d)
more_cases [] c zero d e = inl (let z : c ≡ d = cc in z)
more_cases [] c (suc n) d e = inr e
more_cases (b ∷ cs) c zero d e = inr e
more_cases (b ∷ cs) c (suc n) d e = more_cases cs c n d e

-- Part of the blocks that agree.
part_same : (cs : List today.Content) (os ps : Heap Block) → SameBlocks cs os → length ps ≡ length os
    → ((n : ℕ) (b : Block) → at ps n ≡ Some b → at os n ≡ Some b) → SameBlocks cs ps
part_same [] [] [] s l h = tt
part_same [] [] (p ∷ ps) s l h = absurd (omega arith)
part_same [] (o ∷ os) ps s l h = absurd s
part_same (c ∷ cs) [] ps s l h = absurd s
part_same (c ∷ cs) (o ∷ os) [] s l h = absurd (omega arith)
part_same (c ∷ cs) (o ∷ os) (p ∷ ps) s l h = (first p (λ b e. h 0 b e), part_same cs os ps s.1 (omega arith) (λ n b e. h (suc n) b e))
  where
    first : (p : Option Block) → ((b : Block) → p ≡ Some b → o ≡ Some b) → SameOrGone c p
    first None h = tt
    first (Some b) h = subst (λ u. SameOrGone c u) (h b refl) s.0

-- What nobody names may go.
pub cut_worlds : (x : today.World) (y : World) (named : ℕ → ℕ) → WorldsAgree x y → WorldsAgree x (naming.trim named y)
cut_worlds x y named w = record {
  outside = w.outside;
  frames = w.frames;
  blocks = part_same x.blocks y.heap (stays inside named y.heap) w.blocks (stays_length inside named y.heap)
      (λ n b e. stays_part inside named y.heap n b e);
  instance = w.instance;
}

-- ---- in a world

module _ (x : today.World) (y : World) (w : WorldsAgree x y) where
  pub same_block : (n : ℕ) (c : today.Content) → slice_get x.blocks n ≡ Some c → IsThere y n → at y.heap n ≡ Some (block_of c)
  same_block n c e t = t.1 ∙ ap Some (same_at x.blocks y.heap n c t.0 w.blocks e t.1)

  -- The block of a serial that is there.
  pub block_follows : (n : ℕ) → IsThere y n → Follows (λ c b. b ≡ block_of c) (today.block x n) (block y n)
  block_follows n t = go (slice_get x.blocks n) refl
    where
      go : (o : Option today.Content) → slice_get x.blocks n ≡ o → Follows (λ c b. b ≡ block_of c) (or_wrong dead_address o) (block y n)
      go None e = wrong dead_address (block y n)
      go (Some c) e =
          subst (λ o. Follows (λ c b. b ≡ block_of c) (Found c) (or_wrong dead_address o)) (sym (same_block n c e t))
          (found c (block_of c) refl)

  -- The built-in module is a new block.
  pub with_sys : (names : List (List ℕ)) → WorldsAgree (today.with_block x (today.Sys names)) (with_block y (block_of (today.Sys names)))
  with_sys names = record {
    outside = w.outside;
    frames = w.frames;
    blocks = more_same x.blocks y.heap (today.Sys names) w.blocks;
    instance = one;
  }
    where
      one : OneInstance (x.blocks ++ today.Sys names ∷ [])
      one n object words e = go (more_cases x.blocks (today.Sys names) n (today.Instance object words) e)
        where
          go : (today.Sys names ≡ today.Instance object words) ⊎ (slice_get x.blocks n ≡ Some (today.Instance object words)) → n ≡ 0
          go (inl f) = absurd cc
          go (inr f) = w.instance n object words f

  module _ (here : IsThere y 0) where
    -- The data of the instance, which are read and changed.
    pub data_same : (n : ℕ) → Same (today_places.data_at x n) (data_at y n)
    data_same n = go (slice_get x.blocks n) refl
      where
        go : (o : Option today.Content) → slice_get x.blocks n ≡ o → Same (or_wrong dead_address o >>= today_places.data_of) (data_at y n)
        go None e = fails dead_address (data_at y n)
        go (Some (today.Text chars)) e = fails 110 (data_at y n)
        go (Some (today.Sys names)) e = fails 110 (data_at y n)
        go (Some (today.Instance object words)) e =
            let zeroth = w.instance n object words e in
            let there = same_block n (today.Instance object words) e (subst (λ k. IsThere y k) (sym zeroth) here) in
            subst (λ o. Same (Found words) (or_wrong dead_address o >>= reached)) (sym there) (finds words)

    -- Those of the instance aren't those of a block that is new.
    pub data_before : (names : List (List ℕ)) (n : ℕ)
        → Same (today_places.data_at (today.with_block x (today.Sys names)) n) (data_at y n)
    data_before names n = go (slice_get (x.blocks ++ today.Sys names ∷ []) n) refl
      where
        there : (object : ℕ) (words : List Word)
            → (today.Sys names ≡ today.Instance object words) ⊎ (slice_get x.blocks n ≡ Some (today.Instance object words))
            → at y.heap n ≡ Some (Instance object words)
        there object words (inl e) = absurd cc
        there object words (inr e) =
            same_block n (today.Instance object words) e (subst (λ k. IsThere y k) (sym (w.instance n object words e)) here)

        go : (o : Option today.Content) → slice_get (x.blocks ++ today.Sys names ∷ []) n ≡ o
            → Same (or_wrong dead_address o >>= today_places.data_of) (data_at y n)
        go None e = fails dead_address (data_at y n)
        go (Some (today.Text chars)) e = fails 110 (data_at y n)
        go (Some (today.Sys others)) e = fails 110 (data_at y n)
        go (Some (today.Instance object words)) e =
            subst (λ o. Same (Found words) (or_wrong dead_address o >>= reached))
            (sym (there object words (more_cases x.blocks (today.Sys names) n (today.Instance object words) e))) (finds words)

    pub data_changes : (n : ℕ) (old words : List Word) → today_places.data_at x n ≡ Found old
        → Follows WorldsAgree (today_places.with_data x n words) (with_data y n words)
    data_changes n old words f = go (slice_get x.blocks n) refl f
      where
        go : (o : Option today.Content) → slice_get x.blocks n ≡ o → or_wrong dead_address o >>= today_places.data_of ≡ Found old
            → Follows WorldsAgree (or_wrong dead_address o >>= λ c. Found (today.with_content x n (today_places.renewed words c)))
            (with_data y n words)
        go None e f = absurd cc
        go (Some (today.Text chars)) e f = absurd cc
        go (Some (today.Sys names)) e f = absurd cc
        go (Some (today.Instance object was)) e f =
            let zeroth = w.instance n object was e in
            let there = same_block n (today.Instance object was) e (subst (λ k. IsThere y k) (sym zeroth) here) in
            let after : WorldsAgree (today.with_content x n (today.Instance object words))
            (with_changed y n (Instance object words)) = record {
              outside = w.outside;
              frames = w.frames;
              blocks = set_same x.blocks y.heap n (today.Instance object words) w.blocks;
              instance = set_one x.blocks n object words w.instance zeroth;
            } in
            subst
            (λ o. Follows WorldsAgree (Found (today.with_content x n (today.Instance object words)))
            (or_wrong dead_address o >>= λ b. Found (with_changed y n (blocks.with_words words b)))) (sym there) (found _ _ after)
