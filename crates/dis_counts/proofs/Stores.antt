-- What an instruction may store, and what stores leave. A sort of words is allowed where numbers, what the process reads, addresses of
-- what it reaches and a reference to a new block are of that sort.
use Rattle.std.proofs.Common.{◌≡◌, ℕ, zero, suc, ℤ, ◌⊎◌, inl, inr, Bool, true, false, List, [], ◌∷◌, ◌++◌, refl, sym, ap, subst, ◌∙◌}
use Rattle.std.proofs.Common.{if◌then◌else◌}
use Rattle.std.specs.Prelude.{Option, Some, None, map, slice_set, nat_eq}
use Rattle.limbo_values.specs.declared.number.Kind.{Kind}
use Rattle.dis_isa.specs.declared.inst.Operand.{Operand}
use Rattle.dis_isa.specs.declared.inst.Operand.TheVariants as operand
use Rattle.heap_model.specs.Heap.{Heap, at}
use Rattle.dis_meaning.specs.Words.{InBlock, InFrame, Word, Plain, Refer, Address, Found, ◌>>=◌, word_at, stored, reference}
use Rattle.dis_meaning.specs.Numbers.{with_number_at}
use Rattle.dis_meaning.specs.Places.{Spot, Own, Data, Far, words_in, all_frames, place_in, change}
use Rattle.dis_meaning.specs.Process.{Frame, Process}
use Rattle.dis_meaning.specs.Step.{made_frame, without}
use Rattle.dis_memory.specs.Blocks as blocks
use Rattle.dis_memory.specs.Blocks.{Block, Record, Text, Array, Part, Cell, Channel, Instance, Sys, World, block, reached, with_block}
use Rattle.dis_memory.specs.Blocks.{with_changed}
use Rattle.dis_memory.specs.Blocks.{next_serial, with_words}
use Rattle.dis_memory.specs.Places.{Memory, memory, data_at, words_at, read, with_data, with_words_at, store, store_number, spot}
use Rattle.dis_memory.specs.Places.{source_word}
use Rattle.dis_memory.specs.Places.{source_reference, reference_at}
use Rattle.dis_memory.specs.Laws.{Leads, Reaches, own}
use Rattle.dis_memory.proofs.Growing.{both, found_same, block_there}
use Rattle.dis_memory.proofs.Reaching.{ReachedSpot, read_near, spot_reached, source_refers}
use Rattle.dis_counts.proofs.Words.{AllOk, word_ok, stored_ok, number_ok}

module _ (Ok : Word → Type 0) where
  -- ---- frames

  abbrev pub FrameOk : Frame → Type 0
  FrameOk f = Ok (Refer (Some f.instance)) × AllOk Ok f.words

  abbrev pub FramesOk : List Frame → Type 0
  FramesOk [] = Unit {0}
  FramesOk (f ∷ fs) = FrameOk f × FramesOk fs

  pub record ProcessOk (q : Process) : Type 0 where
    pub frame : FrameOk q.frame
    pub below : FramesOk q.below
    pub made : FramesOk q.made

  pub joined_ok : (fs gs : List Frame) → FramesOk fs → FramesOk gs → FramesOk (fs ++ gs)
  joined_ok [] gs a b = b
  joined_ok (f ∷ fs) gs a b = (a.0, joined_ok fs gs a.1 b)

  pub all_ok : (q : Process) → ProcessOk q → FramesOk (all_frames q)
  all_ok q ok = (ok.frame, joined_ok q.below q.made ok.below ok.made)

  frame_words : (fs : List Frame) (s : ℕ) (ws : List Word) → FramesOk fs → words_in s fs ≡ Found ws → AllOk Ok ws
  frame_words [] s ws ok e = absurd cc
  frame_words (f ∷ fs) s ws ok e = go (nat_eq f.serial s) e (λ h. frame_words fs s ws ok.1 h)
    where
      go : (b : Bool) → (if b then Found f.words else words_in s fs) ≡ Found ws → (words_in s fs ≡ Found ws → AllOk Ok ws) → AllOk Ok ws
      go true e rest = subst (AllOk Ok) (found_same f.words ws e) ok.0.1
      go false e rest = rest e

  changed_ok : (s : ℕ) (ws : List Word) (f : Frame) → FrameOk f → AllOk Ok ws → FrameOk (change s ws f)
  changed_ok s ws f ok new = go (nat_eq f.serial s)
    where
      go : (b : Bool) → FrameOk (if b then record { serial = f.serial; instance = f.instance; pc = f.pc; words = ws } else f)
      go true = (ok.0, new)
      go false = ok

  change_ok : (s : ℕ) (ws : List Word) (fs : List Frame) → FramesOk fs → AllOk Ok ws → FramesOk (map (change s ws) fs)
  change_ok s ws [] ok new = tt
  change_ok s ws (f ∷ fs) ok new = (changed_ok s ws f ok.0 new, change_ok s ws fs ok.1 new)

  pub without_ok : (s : ℕ) (fs : List Frame) → FramesOk fs → FramesOk (without s fs)
  without_ok s [] ok = tt
  without_ok s (f ∷ fs) ok = go (nat_eq f.serial s) (without_ok s fs ok.1)
    where
      go : (b : Bool) → FramesOk (without s fs) → FramesOk (if b then without s fs else f ∷ without s fs)
      go true rest = rest
      go false rest = (ok.0, rest)

  pub made_is_ok : (fs : List Frame) (s : ℕ) (f : Frame) → made_frame fs s ≡ Found f → FramesOk fs → FrameOk f
  made_is_ok [] s f e ok = absurd cc
  made_is_ok (g ∷ fs) s f e ok = go (nat_eq g.serial s) e (λ h. made_is_ok fs s f h ok.1)
    where
      go : (b : Bool) → (if b then Found g else made_frame fs s) ≡ Found f → (made_frame fs s ≡ Found f → FrameOk f) → FrameOk f
      go true e rest = subst FrameOk (found_same g f e) ok.0
      go false e rest = rest e

  -- ---- blocks

  reached_ok : (b : Block) (ws : List Word) → reached b ≡ Found ws → AllOk Ok (blocks.words_in b) → AllOk Ok ws
  reached_ok (Record words) ws e ok = subst (AllOk Ok) (found_same words ws e) ok
  reached_ok (Array element long words) ws e ok = subst (AllOk Ok) (found_same words ws e) ok
  reached_ok (Instance object words) ws e ok = subst (AllOk Ok) (found_same words ws e) ok
  reached_ok (Text chars) ws e ok = absurd cc
  reached_ok (Part array start long) ws e ok = absurd cc
  reached_ok (Cell element rest) ws e ok = absurd cc
  reached_ok (Channel element) ws e ok = absurd cc
  reached_ok (Sys names) ws e ok = absurd cc

  -- A block with other words has these, or is as it was.
  words_or_same : (ws : List Word) (b : Block) → AllOk Ok ws → AllOk Ok (blocks.words_in (with_words ws b)) ⊎ (with_words ws b ≡ b)
  words_or_same ws (Record words) ok = inl ok
  words_or_same ws (Array element long words) ok = inl ok
  words_or_same ws (Instance object words) ok = inl ok
  words_or_same ws (Text chars) ok = inr refl
  words_or_same ws (Part array start long) ok = inr refl
  words_or_same ws (Cell element rest) ok = inr refl
  words_or_same ws (Channel element) ok = inr refl
  words_or_same ws (Sys names) ok = inr refl

  -- Each block has words of the sort, or is as it was.
  abbrev pub BlocksOk : World → World → Type 0
  BlocksOk x y = (m : ℕ) (b : Block) → at y.heap m ≡ Some b → AllOk Ok (blocks.words_in b) ⊎ (at x.heap m ≡ Some b)

  pub record Left (x y : World) (q : Process) : Type 0 where
    pub blocks : BlocksOk x y
    pub process : ProcessOk q

  -- A sort that a process may store.
  pub record Allowed (x : World) (p : Process) : Type 0 where
    pub plain : (z : ℤ) → Ok (Plain z)
    pub nil : Ok (Refer None)
    pub new : Ok (Refer (Some (next_serial x)))
    pub frame_address : (s : ℕ) (k : ℤ) → Ok (Address (InFrame s) k)
    pub block_address : (n : ℕ) (k : ℤ) → Reaches x p n → Ok (Address (InBlock n) k)
    pub process : ProcessOk p
    pub blocks : (m : ℕ) (b : Block) → Reaches x p m → at x.heap m ≡ Some b → AllOk Ok (blocks.words_in b)

set_cases : (h : Heap Block) (k : ℕ) (c : Block) (m : ℕ) (b : Block) → at (slice_set h k (Some c)) m ≡ Some b
    → ((m ≡ k) × (c ≡ b)) ⊎ (at h m ≡ Some b)
set_cases [] k c m b e = inr e
set_cases (o ∷ os) zero c zero b e = inl (refl, let z : c ≡ b = cc in z)
set_cases (o ∷ os) zero c (suc m) b e = inr e
set_cases (o ∷ os) (suc k) c zero b e = inr e
set_cases (o ∷ os) (suc k) c (suc m) b e = elim (set_cases os k c m b e) [ inl s ↦ inl (ap suc s.0, s.1) | inr s ↦ inr s ]

module _ (Ok : Word → Type 0) (x : World) (p : Process) (a : Allowed Ok x p) where
  -- A place in the words of a process with such frames, in a block that the first process reaches.
  abbrev pub Near : Process → Spot → Type 0
  Near q (Own k) = Unit {0}
  Near q (Data k) = Reaches x p q.frame.instance
  Near q (Far (InFrame s) k) = Unit {0}
  Near q (Far (InBlock n) k) = Reaches x p n

  pub near : (s : Spot) → ReachedSpot x p s → Near p s
  near (Own k) r = tt
  near (Data k) r = own p.frame.instance (inl (inl refl))
  near (Far (InFrame s) k) r = tt
  near (Far (InBlock n) k) r = r

  pub nothing_more : BlocksOk Ok x x
  nothing_more m b there = inr there

  -- As the process begins.
  pub as_it_is : Left Ok x x p
  as_it_is = record { blocks = nothing_more; process = a.process }

  module _ (y : World) (q : Process) (old : Left Ok x y q) where
    block_words : (m : ℕ) (ws : List Word) → Reaches x p m → data_at y m ≡ Found ws → AllOk Ok ws
    block_words m ws near e =
        let h = both (block y m) reached ws e in
        reached_ok Ok h.first ws h.then
        (elim (old.blocks m h.first (block_there y m h.first h.is)) [ inl ok ↦ ok | inr was ↦ a.blocks m h.first near was ])

    pub words_there : (s : Spot) (ws : List Word) → Near q s → words_at y q s ≡ Found ws → AllOk Ok ws
    words_there (Own k) ws near e = subst (AllOk Ok) (found_same q.frame.words ws e) old.process.frame.1
    words_there (Data k) ws near e = block_words q.frame.instance ws near e
    words_there (Far (InFrame s) k) ws near e = frame_words Ok (all_frames q) s ws (all_ok Ok q old.process) e
    words_there (Far (InBlock m) k) ws near e = block_words m ws near e

    data_left : (z : World) (k : ℕ) (ws : List Word) → AllOk Ok ws → with_data y k ws ≡ Found z → BlocksOk Ok x z
    data_left z k ws new e m b there =
        let h = both (block y k) (λ b. Found (with_changed y k (with_words ws b))) z e in
        let same : with_changed y k (with_words ws h.first) ≡ z = found_same _ z h.then in
        let at_z : at (slice_set y.heap k (Some (with_words ws h.first))) m ≡ Some b = ap (λ w. at w.heap m) same ∙ there in
        go h.first (block_there y k h.first h.is) (set_cases y.heap k (with_words ws h.first) m b at_z)
      where
        go : (c : Block) → at y.heap k ≡ Some c → ((m ≡ k) × (with_words ws c ≡ b)) ⊎ (at y.heap m ≡ Some b)
            → AllOk Ok (blocks.words_in b) ⊎ (at x.heap m ≡ Some b)
        go c is (inl (place, same)) = elim (words_or_same Ok ws c new) [
          | inl ok ↦ inl (subst (λ u. AllOk Ok (blocks.words_in u)) same ok)
          | inr kept ↦ old.blocks m b (subst (λ i. at y.heap i ≡ Some b) (sym place) (is ∙ ap Some (sym kept ∙ same)))
        ]
        go c is (inr was) = old.blocks m b was

    as_memory : (m m' : Memory) → m ≡ m' → Left Ok x m.world m.process → Left Ok x m'.world m'.process
    as_memory m m' e d = subst (λ u. Left Ok x u.world u.process) e d

    pub data_kept : (z : World) (k : ℕ) (ws : List Word) → AllOk Ok ws → with_data y k ws ≡ Found z → Left Ok x z q
    data_kept z k ws new e = record { blocks = data_left z k ws new e; process = old.process }

    pub words_kept : (s : Spot) (ws : List Word) (m : Memory) → AllOk Ok ws → with_words_at y q s ws ≡ Found m → Left Ok x m.world m.process
    words_kept (Own k) ws m new e =
        as_memory _ m (found_same _ m e)
        (record {
          blocks = old.blocks;
          process = record { frame = (old.process.frame.0, new); below = old.process.below; made = old.process.made };
        })
    words_kept (Data k) ws m new e =
        let h = both (with_data y q.frame.instance ws) (λ z. Found (memory z q)) m e in
        as_memory (memory h.first q) m (found_same _ m h.then) (data_kept h.first q.frame.instance ws new h.is)
    words_kept (Far (InFrame s) k) ws m new e =
        as_memory _ m (found_same _ m e)
        (record {
          blocks = old.blocks;
          process = record {
            frame = changed_ok Ok s ws q.frame old.process.frame new;
            below = change_ok Ok s ws q.below old.process.below new;
            made = change_ok Ok s ws q.made old.process.made new;
          };
        })
    words_kept (Far (InBlock j) k) ws m new e =
        let h = both (with_data y j ws) (λ z. Found (memory z q)) m e in
        as_memory (memory h.first q) m (found_same _ m h.then) (data_kept h.first j ws new h.is)

    pub store_kept : (s : Spot) (w : Word) (m : Memory) → Near q s → Ok w → store y q s w ≡ Found m → Left Ok x m.world m.process
    store_kept s w m near new e =
        let h = both (words_at y q s) (λ words. stored words (place_in s) w >>= with_words_at y q s) m e in
        let g = both (stored h.first (place_in s) w) (with_words_at y q s) m h.then in
        words_kept s g.first m (stored_ok Ok h.first (place_in s) w g.first (words_there s h.first near h.is) new g.is) g.then

    pub number_kept : (kind : Kind) (s : Spot) (z : ℤ) (m : Memory) → Near q s → store_number kind y q s z ≡ Found m
        → Left Ok x m.world m.process
    number_kept kind s z m near e =
        let h = both (words_at y q s) (λ words. with_number_at kind words (place_in s) z >>= with_words_at y q s) m e in
        let g = both (with_number_at kind h.first (place_in s) z) (with_words_at y q s) m h.then in
        words_kept s g.first m
        (number_ok Ok a.plain a.nil kind h.first (place_in s) z g.first (words_there s h.first near h.is) g.is) g.then

  -- ---- what is read

  pub words_read : (s : Spot) (ws : List Word) → ReachedSpot x p s → words_at x p s ≡ Found ws → AllOk Ok ws
  words_read s ws reach e = words_there x p as_it_is s ws (near s reach) e

  read_ok : (s : Spot) (w : Word) → ReachedSpot x p s → read x p s ≡ Found w → Ok w
  read_ok s w reach e =
      let h = both (words_at x p s) (λ words. word_at words (place_in s)) w e in
      word_ok Ok h.first (place_in s) w (words_read s h.first reach h.is) h.then

  operand_ok : (o : Operand) (w : Word) → spot x p o >>= read x p ≡ Found w → Ok w
  operand_ok o w e = let h = both (spot x p o) (read x p) w e in read_ok h.first w (spot_reached x p o h.first h.is) h.then

  source_ok : (o : Operand) (w : Word) → source_word x p o ≡ Found w → Ok w
  source_ok (operand.Imm z) w e = subst Ok (found_same (Plain z) w e) (a.plain z)
  source_ok (operand.Fp k) w e = operand_ok (operand.Fp k) w e
  source_ok (operand.Mp k) w e = operand_ok (operand.Mp k) w e
  source_ok (operand.IndFp inner outer) w e = operand_ok (operand.IndFp inner outer) w e
  source_ok (operand.IndMp inner outer) w e = operand_ok (operand.IndMp inner outer) w e
  source_ok operand.None w e = absurd cc

  refer_ok : (w : Word) (r : Option ℕ) → reference w ≡ Found r → Ok w → Ok (Refer r)
  refer_ok (Refer s) r e ok = subst (λ u. Ok (Refer u)) (found_same s r e) ok
  refer_ok (Plain z) r e ok = absurd cc
  refer_ok (Address place k) r e ok = absurd cc

  leads_to : (w : Word) (r : Option ℕ) (n : ℕ) → reference w ≡ Found r → r ≡ Some n → Leads w n
  leads_to (Refer s) r n e f = found_same s r e ∙ f
  leads_to (Plain z) r n e f = absurd cc
  leads_to (Address place k) r n e f = absurd cc

  -- A reference of the sort, to a block that the process reaches.
  pub record Held (r : Option ℕ) : Type 0 where
    pub ok : Ok (Refer r)
    pub reached : (n : ℕ) → r ≡ Some n → Reaches x p n

  pub source_held : (o : Operand) (r : Option ℕ) → source_reference x p o ≡ Found r → Held r
  source_held o r e =
      let h = both (source_word x p o) reference r e in
      record { ok = refer_ok h.first r h.then (source_ok o h.first h.is); reached = λ n f. source_refers x p o n (e ∙ ap Found f) }

  pub there_held : (s : Spot) (r : Option ℕ) → ReachedSpot x p s → reference_at x p s ≡ Found r → Held r
  there_held s r reach e =
      let h = both (read x p s) reference r e in
      record {
        ok = refer_ok h.first r h.then (read_ok s h.first reach h.is);
        reached = λ n f. read_near x p s h.first reach h.is n (leads_to h.first r n h.then f);
      }

-- A new block.
pub block_kept : (Ok : Word → Type 0) (x : World) (p : Process) (b : Block) → ProcessOk Ok p → AllOk Ok (blocks.words_in b)
    → Left Ok x (with_block x b) p
block_kept Ok x p b ok new = record { blocks = λ m c there. go m c (more_cases x.heap m c there); process = ok }
  where
    more_cases : (h : Heap Block) (m : ℕ) (c : Block) → at (h ++ Some b ∷ []) m ≡ Some c → (b ≡ c) ⊎ (at h m ≡ Some c)
    more_cases [] zero c e = inl (let z : b ≡ c = cc in z)
    more_cases [] (suc m) c e = inr e
    more_cases (o ∷ os) zero c e = inr e
    more_cases (o ∷ os) (suc m) c e = more_cases os m c e

    go : (m : ℕ) (c : Block) → (b ≡ c) ⊎ (at x.heap m ≡ Some c) → AllOk Ok (blocks.words_in c) ⊎ (at x.heap m ≡ Some c)
    go m c (inl same) = inl (subst (λ u. AllOk Ok (blocks.words_in u)) same new)
    go m c (inr was) = inr was
