-- What a machine has: how many blocks and frames, and that each of them has few enough words. How many are few enough is left open.
use Rattle.std.proofs.Common.{◌≡◌, ℕ, zero, suc, ◌+◌, ◌/◌, ◌≤◌, ℤ, ◌⊎◌, inl, inr, Bool, true, false, List, [], ◌∷◌, ◌++◌, length, sym}
use Rattle.std.proofs.Common.{subst, arith, if◌then◌else◌}
use Rattle.std.specs.Prelude.{Some, map, slice_get, slice_set, nat_eq}
use Rattle.std.proofs.lemmas.List.{length-set, length-append, length-map}
use Rattle.limbo_values.specs.declared.number.Kind.{Kind}
use Rattle.heap_model.specs.Heap.{Heap, at}
use Rattle.dis_file.specs.declared.object.Object.{Object}
use Rattle.dis_file.specs.declared.types.TypeDesc.{TypeDesc}
use Rattle.dis_meaning.specs.Words.{InBlock, InFrame, Word, Found, ◌>>=◌, stored}
use Rattle.dis_meaning.specs.Numbers.{with_number_at}
use Rattle.dis_meaning.specs.Places.{Spot, Own, Data, Far, words_in, all_frames, place_in, change}
use Rattle.dis_meaning.specs.Process.{Frame, Process}
use Rattle.dis_meaning.specs.Step.{made_frame, without}
use Rattle.dis_memory.specs.Blocks.{Block, Record, Text, Array, Part, Cell, Channel, Instance, Sys, World, block, reached, with_block}
use Rattle.dis_memory.specs.Blocks.{with_changed, with_words}
use Rattle.dis_memory.specs.Places.{Memory, memory, data_at, words_at, with_data, with_words_at, store, store_number}
use Rattle.dis_memory.proofs.Growing.{both, found_same, block_there}
use Rattle.dis_limits.proofs.Lengths.{stored_long, number_long}

set_cases : (h : Heap Block) (k : ℕ) (c : Block) (m : ℕ) (b : Block) → at (slice_set h k (Some c)) m ≡ Some b → (c ≡ b) ⊎ (at h m ≡ Some b)
set_cases [] k c m b e = inr e
set_cases (o ∷ os) zero c zero b e = inl (let z : c ≡ b = cc in z)
set_cases (o ∷ os) zero c (suc m) b e = inr e
set_cases (o ∷ os) (suc k) c zero b e = inr e
set_cases (o ∷ os) (suc k) c (suc m) b e = set_cases os k c m b e

more_cases : (h : Heap Block) (c : Block) (m : ℕ) (b : Block) → at (h ++ Some c ∷ []) m ≡ Some b → (c ≡ b) ⊎ (at h m ≡ Some b)
more_cases [] c zero b e = inl (let z : c ≡ b = cc in z)
more_cases [] c (suc m) b e = inr e
more_cases (o ∷ os) c zero b e = inr e
more_cases (o ∷ os) c (suc m) b e = more_cases os c m b e

pub without_long : (s : ℕ) (fs : List Frame) → length (without s fs) ≤ length fs
without_long s [] = omega arith
without_long s (f ∷ fs) = go (nat_eq f.serial s) (without_long s fs)
  where
    go : (b : Bool) → length (without s fs) ≤ length fs → length (if b then without s fs else f ∷ without s fs) ≤ length (f ∷ fs)
    go true l = omega arith
    go false l = omega arith

module _ (Fits : ℕ → Type 0) where
  -- So many words fit: what is less than what does, the words of the largest array, and those of each type of an object.
  pub record Allows (o : Object) : Type 0 where
    pub less : (k n : ℕ) → k ≤ n → Fits n → Fits k
    pub array : Fits 67108864
    pub types : (k : ℕ) (t : TypeDesc) → slice_get o.types k ≡ Some t → Fits (t.size / 4)

  -- ---- frames

  abbrev pub FrameFits : Frame → Type 0
  FrameFits f = Fits (length f.words)

  abbrev pub FramesFit : List Frame → Type 0
  FramesFit [] = Unit {0}
  FramesFit (f ∷ fs) = FrameFits f × FramesFit fs

  -- How many frames a process has, at most, and that each fits.
  pub record ProcessWithin (n : ℕ) (q : Process) : Type 0 where
    pub frame : FrameFits q.frame
    pub below : FramesFit q.below
    pub made : FramesFit q.made
    pub few : suc (length q.below + length q.made) ≤ n

  pub frames_joined : (fs gs : List Frame) → FramesFit fs → FramesFit gs → FramesFit (fs ++ gs)
  frames_joined [] gs a b = b
  frames_joined (f ∷ fs) gs a b = (a.0, frames_joined fs gs a.1 b)

  pub frames_without : (s : ℕ) (fs : List Frame) → FramesFit fs → FramesFit (without s fs)
  frames_without s [] fit = tt
  frames_without s (f ∷ fs) fit = go (nat_eq f.serial s) (frames_without s fs fit.1)
    where
      go : (b : Bool) → FramesFit (without s fs) → FramesFit (if b then without s fs else f ∷ without s fs)
      go true rest = rest
      go false rest = (fit.0, rest)

  pub frame_made : (fs : List Frame) (s : ℕ) (f : Frame) → made_frame fs s ≡ Found f → FramesFit fs → FrameFits f
  frame_made [] s f e fit = absurd cc
  frame_made (g ∷ fs) s f e fit = go (nat_eq g.serial s) e (λ h. frame_made fs s f h fit.1)
    where
      go : (b : Bool) → (if b then Found g else made_frame fs s) ≡ Found f → (made_frame fs s ≡ Found f → FrameFits f) → FrameFits f
      go true e rest = subst FrameFits (found_same g f e) fit.0
      go false e rest = rest e

  frame_words : (fs : List Frame) (s : ℕ) (ws : List Word) → FramesFit fs → words_in s fs ≡ Found ws → Fits (length ws)
  frame_words [] s ws fit e = absurd cc
  frame_words (f ∷ fs) s ws fit e = go (nat_eq f.serial s) e (λ h. frame_words fs s ws fit.1 h)
    where
      go : (b : Bool) → (if b then Found f.words else words_in s fs) ≡ Found ws → (words_in s fs ≡ Found ws → Fits (length ws))
          → Fits (length ws)
      go true e rest = subst (λ (us : List Word). Fits (length us)) (found_same f.words ws e) fit.0
      go false e rest = rest e

  change_fits : (s : ℕ) (ws : List Word) (f : Frame) → FrameFits f → Fits (length ws) → FrameFits (change s ws f)
  change_fits s ws f fit new = go (nat_eq f.serial s)
    where
      go : (b : Bool) → FrameFits (if b then record { serial = f.serial; instance = f.instance; pc = f.pc; words = ws } else f)
      go true = new
      go false = fit

  changes_fit : (s : ℕ) (ws : List Word) (fs : List Frame) → FramesFit fs → Fits (length ws) → FramesFit (map (change s ws) fs)
  changes_fit s ws [] fit new = tt
  changes_fit s ws (f ∷ fs) fit new = (change_fits s ws f fit.0 new, changes_fit s ws fs fit.1 new)

  -- ---- blocks

  abbrev pub BlockFits : Block → Type 0
  BlockFits (Record words) = Fits (length words)
  BlockFits (Array element long words) = Fits (length words)
  BlockFits (Cell element rest) = Fits (length element)
  BlockFits (Instance object words) = Fits (length words)
  BlockFits (Text chars) = Unit {0}
  BlockFits (Part array start long) = Unit {0}
  BlockFits (Channel element) = Unit {0}
  BlockFits (Sys names) = Unit {0}

  -- How many blocks a heap has made, at most, and that each that is there fits.
  pub record HeapWithin (n : ℕ) (h : Heap Block) : Type 0 where
    pub each : (k : ℕ) (b : Block) → at h k ≡ Some b → BlockFits b
    pub few : length h ≤ n

  pub heap_on : (n m : ℕ) (h : Heap Block) → n ≤ m → HeapWithin n h → HeapWithin m h
  heap_on n m h l w = record { each = w.each; few = let z = w.few in omega arith }

  pub heap_with : (n : ℕ) (x : World) (b : Block) → HeapWithin n x.heap → BlockFits b → HeapWithin (suc n) (with_block x b).heap
  heap_with n x b w fit = record {
    each = λ k c e. go k c (more_cases x.heap b k c e);
    few = let z = w.few in let y = length-append x.heap (Some b ∷ []) in omega arith;
  }
    where
      go : (k : ℕ) (c : Block) → (b ≡ c) ⊎ (at x.heap k ≡ Some c) → BlockFits c
      go k c (inl same) = subst BlockFits same fit
      go k c (inr was) = w.each k c was

  reached_fit : (b : Block) (ws : List Word) → reached b ≡ Found ws → BlockFits b → Fits (length ws)
  reached_fit (Record words) ws e fit = subst (λ (us : List Word). Fits (length us)) (found_same words ws e) fit
  reached_fit (Array element long words) ws e fit = subst (λ (us : List Word). Fits (length us)) (found_same words ws e) fit
  reached_fit (Instance object words) ws e fit = subst (λ (us : List Word). Fits (length us)) (found_same words ws e) fit
  reached_fit (Text chars) ws e fit = absurd cc
  reached_fit (Part array start long) ws e fit = absurd cc
  reached_fit (Cell element rest) ws e fit = absurd cc
  reached_fit (Channel element) ws e fit = absurd cc
  reached_fit (Sys names) ws e fit = absurd cc

  with_words_fits : (ws : List Word) (b : Block) → Fits (length ws) → BlockFits b → BlockFits (with_words ws b)
  with_words_fits ws (Record words) new fit = new
  with_words_fits ws (Array element long words) new fit = new
  with_words_fits ws (Instance object words) new fit = new
  with_words_fits ws (Text chars) new fit = tt
  with_words_fits ws (Part array start long) new fit = tt
  with_words_fits ws (Cell element rest) new fit = fit
  with_words_fits ws (Channel element) new fit = tt
  with_words_fits ws (Sys names) new fit = tt

  pub block_fits : (n : ℕ) (x : World) (k : ℕ) (b : Block) → HeapWithin n x.heap → block x k ≡ Found b → BlockFits b
  block_fits n x k b w e = w.each k b (block_there x k b e)

  pub data_fits : (n : ℕ) (x : World) (k : ℕ) (ws : List Word) → HeapWithin n x.heap → data_at x k ≡ Found ws → Fits (length ws)
  data_fits n x k ws w e = let h = both (block x k) reached ws e in reached_fit h.first ws h.then (block_fits n x k h.first w h.is)

  pub data_kept : (n : ℕ) (x z : World) (k : ℕ) (ws : List Word) → HeapWithin n x.heap → Fits (length ws) → with_data x k ws ≡ Found z
      → HeapWithin n z.heap
  data_kept n x z k ws w new e =
      let h = both (block x k) (λ b. Found (with_changed x k (with_words ws b))) z e in
      subst (λ (y : World). HeapWithin n y.heap) (found_same _ z h.then) (changed h.first (block_fits n x k h.first w h.is))
    where
      changed : (c : Block) → BlockFits c → HeapWithin n (with_changed x k (with_words ws c)).heap
      changed c fit = record {
        each = λ m b e. go c fit m b (set_cases x.heap k (with_words ws c) m b e);
        few = let z = w.few in let y = length-set x.heap k (Some (with_words ws c)) in omega arith;
      }
        where
          go : (c : Block) → BlockFits c → (m : ℕ) (b : Block) → (with_words ws c ≡ b) ⊎ (at x.heap m ≡ Some b) → BlockFits b
          go c fit m b (inl same) = subst BlockFits same (with_words_fits ws c new fit)
          go c fit m b (inr was) = w.each m b was

  -- ---- a world and a process

  module _ (n k : ℕ) where
    pub record Within (x : World) (q : Process) : Type 0 where
      pub heap : HeapWithin n x.heap
      pub process : ProcessWithin k q

    pub words_fit : (x : World) (q : Process) (s : Spot) (ws : List Word) → Within x q → words_at x q s ≡ Found ws → Fits (length ws)
    words_fit x q (Own i) ws w e = subst (λ (us : List Word). Fits (length us)) (found_same q.frame.words ws e) w.process.frame
    words_fit x q (Data i) ws w e = data_fits n x q.frame.instance ws w.heap e
    words_fit x q (Far (InFrame s) i) ws w e =
        frame_words (all_frames q) s ws (w.process.frame, frames_joined q.below q.made w.process.below w.process.made) e
    words_fit x q (Far (InBlock m) i) ws w e = data_fits n x m ws w.heap e

    as_memory : (m m' : Memory) → m ≡ m' → Within m.world m.process → Within m'.world m'.process
    as_memory m m' e w = subst (λ u. Within u.world u.process) e w

    pub words_kept : (x : World) (q : Process) (s : Spot) (ws : List Word) (m : Memory) → Within x q → Fits (length ws)
        → with_words_at x q s ws ≡ Found m → Within m.world m.process
    words_kept x q (Own i) ws m w new e =
        as_memory _ m (found_same _ m e)
        (record {
          heap = w.heap;
          process = record { frame = new; below = w.process.below; made = w.process.made; few = w.process.few };
        })
    words_kept x q (Data i) ws m w new e =
        let h = both (with_data x q.frame.instance ws) (λ z. Found (memory z q)) m e in
        as_memory (memory h.first q) m (found_same _ m h.then)
        (record { heap = data_kept n x h.first q.frame.instance ws w.heap new h.is; process = w.process })
    words_kept x q (Far (InFrame s) i) ws m w new e =
        as_memory _ m (found_same _ m e)
        (record {
          heap = w.heap;
          process = record {
            frame = change_fits s ws q.frame w.process.frame new;
            below = changes_fit s ws q.below w.process.below new;
            made = changes_fit s ws q.made w.process.made new;
            few =
                let z = w.process.few in
                let a = length-map q.below (change s ws) in let b = length-map q.made (change s ws) in omega arith;
          };
        })
    words_kept x q (Far (InBlock j) i) ws m w new e =
        let h = both (with_data x j ws) (λ z. Found (memory z q)) m e in
        as_memory (memory h.first q) m (found_same _ m h.then)
        (record { heap = data_kept n x h.first j ws w.heap new h.is; process = w.process })

    as_many : (us ws : List Word) → length us ≡ length ws → Fits (length ws) → Fits (length us)
    as_many us ws e fit = subst Fits (sym e) fit

    pub store_kept : (x : World) (q : Process) (s : Spot) (v : Word) (m : Memory) → Within x q → store x q s v ≡ Found m
        → Within m.world m.process
    store_kept x q s v m w e =
        let h = both (words_at x q s) (λ words. stored words (place_in s) v >>= with_words_at x q s) m e in
        let g = both (stored h.first (place_in s) v) (with_words_at x q s) m h.then in
        words_kept x q s g.first m w
        (as_many g.first h.first (stored_long h.first (place_in s) v g.first g.is) (words_fit x q s h.first w h.is)) g.then

    pub number_kept : (kind : Kind) (x : World) (q : Process) (s : Spot) (z : ℤ) (m : Memory) → Within x q
        → store_number kind x q s z ≡ Found m → Within m.world m.process
    number_kept kind x q s z m w e =
        let h = both (words_at x q s) (λ words. with_number_at kind words (place_in s) z >>= with_words_at x q s) m e in
        let g = both (with_number_at kind h.first (place_in s) z) (with_words_at x q s) m h.then in
        words_kept x q s g.first m w
        (as_many g.first h.first (number_long kind h.first (place_in s) z g.first g.is) (words_fit x q s h.first w h.is)) g.then

  pub within_on : (n m k l : ℕ) (x : World) (q : Process) → n ≤ m → k ≤ l → Within n k x q → Within m l x q
  within_on n m k l x q a b w = record {
    heap = heap_on n m x.heap a w.heap;
    process = record {
      frame = w.process.frame;
      below = w.process.below;
      made = w.process.made;
      few = let z = w.process.few in omega arith;
    };
  }
