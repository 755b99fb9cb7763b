-- What operands name, a process reaches; and what is stored there changes nothing else.
use Rattle.std.proofs.Common.{◌≡◌, ◌≢◌, ℕ, zero, suc, ℤ, ◌⊎◌, inl, inr, Bool, true, false, List, [], ◌∷◌, ◌++◌, refl, sym, ap, subst, ◌∙◌}
use Rattle.std.specs.Prelude.{Option, Some, None, slice_get, slice_set, nat_eq, if◌then◌else◌, pos}
use Rattle.std.specs.Ordering.{int_eq}
use Rattle.limbo_values.specs.declared.number.Kind.{Kind}
use Rattle.dis_isa.specs.declared.inst.Middle.{Middle}
use Rattle.dis_isa.specs.declared.inst.Middle.TheVariants as middle
use Rattle.dis_isa.specs.declared.inst.Operand.{Operand}
use Rattle.dis_isa.specs.declared.inst.Operand.TheVariants as operand
use Rattle.heap_model.specs.Heap.{at}
use Rattle.dis_meaning.specs.Words.{Place, InBlock, InFrame, Word, Plain, Refer, Address, Access, Found, Wrong, ◌>>=◌}
use Rattle.dis_meaning.specs.Words.{type_check, or_wrong, word_number, word_at, stored, reference}
use Rattle.dis_meaning.specs.Numbers.{with_number_at}
use Rattle.dis_meaning.specs.Places.{Spot, Own, Data, Far, words_in, all_frames, place_in}
use Rattle.dis_meaning.specs.Process.{Frame, Process}
use Rattle.dis_memory.specs.Blocks as blocks
use Rattle.dis_memory.specs.Blocks.{Block, Record, Text, Array, Part, Cell, Channel, Instance, Sys, World, block, reached, with_block, with_changed}
use Rattle.dis_memory.specs.Kinds.{Elements, all_of, some_of, elements_in, elements_at}
use Rattle.dis_memory.specs.Places.{Memory, memory, data_at, words_at, read, with_data, with_words_at, store, store_number, behind, spot}
use Rattle.dis_memory.specs.Places.{middle_spot, source_word, source_reference}
use Rattle.dis_meaning.specs.Step.{made_frame, place_of}
use Rattle.dis_memory.specs.Control as control
use Rattle.dis_memory.specs.Laws.{Leads, SomeLeads, FramesLead, Reaches, own, on, ChangesReached}
use Rattle.dis_memory.proofs.Growing.{both, found_same, block_there, set_apart, more_there}

-- ---- words that lead

pub among : (ws : List Word) (k : ℕ) (w : Word) (n : ℕ) → slice_get ws k ≡ Some w → Leads w n → SomeLeads ws n
among [] k w n e l = absurd cc
among (v ∷ vs) zero w n e l = inl (subst (λ u. Leads u n) (let z : w ≡ v = cc in z) l)
among (v ∷ vs) (suc k) w n e l = inr (among vs k w n e l)

pub or_found : {T : Type 0} (number : ℕ) (o : Option T) (t : T) → or_wrong number o ≡ Found t → o ≡ Some t
or_found number None t e = absurd cc
or_found number (Some s) t e = ap Some (found_same s t e)

pub word_leads : (ws : List Word) (at : ℤ) (w : Word) (n : ℕ) → word_at ws at ≡ Found w → Leads w n → SomeLeads ws n
word_leads ws at w n e l =
    let h = both (word_number at) (λ k. or_wrong type_check (slice_get ws k)) w e in
    among ws h.first w n (or_found type_check (slice_get ws h.first) w h.then) l

pub reached_leads : (b : Block) (ws : List Word) (n : ℕ) → reached b ≡ Found ws → SomeLeads ws n → SomeLeads (blocks.words_in b) n
reached_leads (Record words) ws n e l = rw (found_same words ws e) l
reached_leads (Array element long words) ws n e l = rw (found_same words ws e) l
reached_leads (Instance object words) ws n e l = rw (found_same words ws e) l
reached_leads (Text chars) ws n e l = absurd cc
reached_leads (Part array start long) ws n e l = absurd cc
reached_leads (Cell element rest) ws n e l = absurd cc
reached_leads (Channel element) ws n e l = absurd cc
reached_leads (Sys names) ws n e l = absurd cc

frame_leads : (fs : List Frame) (s : ℕ) (ws : List Word) (n : ℕ) → words_in s fs ≡ Found ws → SomeLeads ws n → FramesLead fs n
frame_leads [] s ws n e l = absurd cc
frame_leads (f ∷ fs) s ws n e l = go (nat_eq f.serial s) e (λ h. frame_leads fs s ws n h l)
  where
    go : (b : Bool) → (if b then Found f.words else words_in s fs) ≡ Found ws → (words_in s fs ≡ Found ws → FramesLead fs n)
        → FramesLead (f ∷ fs) n
    go true e rest = inl (inr (rw (found_same f.words ws e) l))
    go false e rest = inr (rest e)

-- ---- places that a process reaches

abbrev pub ReachedSpot : World → Process → Spot → Type 0
ReachedSpot x p (Own at) = Unit {0}
ReachedSpot x p (Data at) = Unit {0}
ReachedSpot x p (Far (InFrame s) at) = Unit {0}
ReachedSpot x p (Far (InBlock n) at) = Reaches x p n

module _ (x : World) (p : Process) where
  instance_reached : Reaches x p p.frame.instance
  instance_reached = own p.frame.instance (inl (inl refl))

  block_words : (m : ℕ) (ws : List Word) (n : ℕ) → Reaches x p m → data_at x m ≡ Found ws → SomeLeads ws n → Reaches x p n
  block_words m ws n r e l =
      let h = both (block x m) reached ws e in
      on m n h.first r (block_there x m h.first h.is) (reached_leads h.first ws n h.then l)

  words_reach : (s : Spot) (ws : List Word) (n : ℕ) → ReachedSpot x p s → words_at x p s ≡ Found ws → SomeLeads ws n → Reaches x p n
  words_reach (Own at) ws n r e l = own n (inl (inr (rw (found_same p.frame.words ws e) l)))
  words_reach (Data at) ws n r e l = block_words p.frame.instance ws n instance_reached e l
  words_reach (Far (InFrame s) at) ws n r e l = own n (frame_leads (all_frames p) s ws n e l)
  words_reach (Far (InBlock m) at) ws n r e l = block_words m ws n r e l

  -- A word leads only to blocks that the process reaches.
  abbrev pub Near : Word → Type 0
  Near w = (n : ℕ) → Leads w n → Reaches x p n

  pub read_near : (s : Spot) (w : Word) → ReachedSpot x p s → read x p s ≡ Found w → Near w
  read_near s w r e n l =
      let h = both (words_at x p s) (λ words. word_at words (place_in s)) w e in
      words_reach s h.first n r h.is (word_leads h.first (place_in s) w n h.then l)

  pub behind_reached : (w : Word) (outer : ℤ) (s : Spot) → Near w → behind w outer ≡ Found s → ReachedSpot x p s
  behind_reached (Address (InBlock n) at) outer s near e = subst (ReachedSpot x p) (found_same _ s e) (near n refl)
  behind_reached (Address (InFrame n) at) outer s near e = subst (ReachedSpot x p) (found_same _ s e) tt
  behind_reached (Refer None) outer s near e = absurd cc
  behind_reached (Refer (Some n)) outer s near e = subst (ReachedSpot x p) (found_same _ s e) (near n refl)
  behind_reached (Plain z) outer s near e = absurd cc

  pub spot_reached : (o : Operand) (s : Spot) → spot x p o ≡ Found s → ReachedSpot x p s
  spot_reached (operand.Fp n) s e = subst (ReachedSpot x p) (found_same _ s e) tt
  spot_reached (operand.Mp n) s e = subst (ReachedSpot x p) (found_same _ s e) tt
  spot_reached (operand.IndFp inner outer) s e =
      let h = both (read x p (Own inner)) (λ w. behind w outer) s e in
      behind_reached h.first outer s (read_near (Own inner) h.first tt h.is) h.then
  spot_reached (operand.IndMp inner outer) s e =
      let h = both (read x p (Data inner)) (λ w. behind w outer) s e in
      behind_reached h.first outer s (read_near (Data inner) h.first tt h.is) h.then
  spot_reached (operand.Imm n) s e = absurd cc
  spot_reached operand.None s e = absurd cc

  pub middle_reached : (m : Middle) (s : Spot) → middle_spot m ≡ Found s → ReachedSpot x p s
  middle_reached (middle.Fp n) s e = subst (ReachedSpot x p) (found_same _ s e) tt
  middle_reached (middle.Mp n) s e = subst (ReachedSpot x p) (found_same _ s e) tt
  middle_reached (middle.Imm n) s e = absurd cc
  middle_reached middle.None s e = absurd cc

  -- ---- references

  operand_near : (o : Operand) (w : Word) → spot x p o >>= read x p ≡ Found w → Near w
  operand_near o w e =
      let h = both (spot x p o) (read x p) w e in read_near h.first w (spot_reached o h.first h.is) h.then

  source_near : (o : Operand) (w : Word) → source_word x p o ≡ Found w → Near w
  source_near (operand.Imm z) w e = λ n l. absurd (subst (λ u. Leads u n) (sym (found_same (Plain z) w e)) l)
  source_near (operand.Fp n) w e = operand_near (operand.Fp n) w e
  source_near (operand.Mp n) w e = operand_near (operand.Mp n) w e
  source_near (operand.IndFp inner outer) w e = operand_near (operand.IndFp inner outer) w e
  source_near (operand.IndMp inner outer) w e = operand_near (operand.IndMp inner outer) w e
  source_near operand.None w e = absurd cc

  refers_near : (w : Word) (n : ℕ) → Near w → reference w ≡ Found (Some n) → Reaches x p n
  refers_near (Refer r) n near e = near n (found_same r (Some n) e)
  refers_near (Plain z) n near e = absurd cc
  refers_near (Address place at) n near e = absurd cc

  pub source_refers : (o : Operand) (n : ℕ) → source_reference x p o ≡ Found (Some n) → Reaches x p n
  source_refers o n e =
      let h = both (source_word x p o) reference (Some n) e in
      refers_near h.first n (source_near o h.first h.is) h.then

  -- ---- arrays

  all_array : (n : ℕ) (b : Block) (e : Elements) → all_of n b ≡ Found e → e.array ≡ n
  all_array n (Array element long words) e f = sym (ap Elements.array (found_same _ e f))
  all_array n (Record words) e f = absurd cc
  all_array n (Text chars) e f = absurd cc
  all_array n (Part array start long) e f = absurd cc
  all_array n (Cell element rest) e f = absurd cc
  all_array n (Channel element) e f = absurd cc
  all_array n (Instance object words) e f = absurd cc
  all_array n (Sys names) e f = absurd cc

  in_block : (n : ℕ) (b : Block) (e : Elements) → Reaches x p n → at x.heap n ≡ Some b → elements_in x n b ≡ Found e → Reaches x p e.array
  in_block n (Part array start long) e r there f =
      let h = both (block x array >>= all_of array) (λ e. Found (some_of start long e)) e f in
      let g = both (block x array) (all_of array) h.first h.is in
      let same : e.array ≡ array = sym (ap Elements.array (found_same _ e h.then)) ∙ all_array array g.first h.first g.then in
      rw same (on n array (Part array start long) r there (inl refl))
  in_block n (Array element long words) e r there f = rw (all_array n (Array element long words) e f) r
  in_block n (Record words) e r there f = absurd cc
  in_block n (Text chars) e r there f = absurd cc
  in_block n (Cell element rest) e r there f = absurd cc
  in_block n (Channel element) e r there f = absurd cc
  in_block n (Instance object words) e r there f = absurd cc
  in_block n (Sys names) e r there f = absurd cc

  pub elements_reached : (o : Operand) (e : Elements) → source_reference x p o >>= elements_at x ≡ Found (Some e) → Reaches x p e.array
  elements_reached o e f =
      let h = both (source_reference x p o) (elements_at x) (Some e) f in
      go h.first h.is h.then
    where
      go : (r : Option ℕ) → source_reference x p o ≡ Found r → elements_at x r ≡ Found (Some e) → Reaches x p e.array
      go None is f = absurd cc
      go (Some n) is f =
          let h = both (block x n >>= elements_in x n) (λ e. Found (Some e)) (Some e) f in
          let g = both (block x n) (elements_in x n) h.first h.is in
          let same : h.first ≡ e = cc in
          subst (λ v. Reaches x p v.array) same (in_block n g.first h.first (source_refers o n is) (block_there x n g.first g.is) g.then)

-- ---- what a store changes

pub same_or_not : (n k : ℕ) → (n ≡ k) ⊎ (n ≢ k)
same_or_not zero zero = inl refl
same_or_not zero (suc k) = inr (λ e. absurd cc)
same_or_not (suc n) zero = inr (λ e. absurd cc)
same_or_not (suc n) (suc k) = go (same_or_not n k)
  where
    go : (n ≡ k) ⊎ (n ≢ k) → (suc n ≡ suc k) ⊎ (suc n ≢ suc k)
    go (inl e) = inl (ap suc e)
    go (inr f) = inr (λ e. f (let z : n ≡ k = cc in z))

module _ (x : World) (p : Process) (y : World) (before : ChangesReached x p y) where
  changed_to : (z z' : World) → z ≡ z' → ChangesReached x p z → ChangesReached x p z'
  changed_to z z' e c = subst (ChangesReached x p) e c

  data_changes : (z : World) (m : ℕ) (ws : List Word) → Reaches x p m → with_data y m ws ≡ Found z → ChangesReached x p z
  data_changes z m ws r e =
      let h = both (block y m) (λ b. Found (with_changed y m (blocks.with_words ws b))) z e in
      changed_to (with_changed y m (blocks.with_words ws h.first)) z (found_same _ z h.then)
      (λ n b there not. go n b there not (same_or_not n m) (blocks.with_words ws h.first))
    where
      go : (n : ℕ) (b : Block) → at x.heap n ≡ Some b → (Reaches x p n → ⊥) → (n ≡ m) ⊎ (n ≢ m) → (c : Block)
          → at (slice_set y.heap m (Some c)) n ≡ Some b
      go n b there not (inl e) c = absurd (not (subst (Reaches x p) (sym e) r))
      go n b there not (inr d) c = set_apart y.heap m (Some c) n d ∙ before n b there not

  pub words_change : (s : Spot) (ws : List Word) (m : Memory) → ReachedSpot x p s → with_words_at y p s ws ≡ Found m → ChangesReached x p m.world
  words_change (Own n) ws m r e = changed_to y m.world (ap Memory.world (found_same _ m e)) before
  words_change (Data n) ws m r e =
      let h = both (with_data y p.frame.instance ws) (λ z. Found (memory z p)) m e in
      changed_to h.first m.world (ap Memory.world (found_same _ m h.then)) (data_changes h.first p.frame.instance ws (instance_reached x p) h.is)
  words_change (Far (InFrame s) n) ws m r e = changed_to y m.world (ap Memory.world (found_same _ m e)) before
  words_change (Far (InBlock k) n) ws m r e =
      let h = both (with_data y k ws) (λ z. Found (memory z p)) m e in
      changed_to h.first m.world (ap Memory.world (found_same _ m h.then)) (data_changes h.first k ws r h.is)

  pub put_changes : (s : Spot) (a : Access (List Word)) (m : Memory) → ReachedSpot x p s → a >>= with_words_at y p s ≡ Found m → ChangesReached x p m.world
  put_changes s a m r e = let h = both a (with_words_at y p s) m e in words_change s h.first m r h.then

  pub store_changes : (s : Spot) (w : Word) (m : Memory) → ReachedSpot x p s → store y p s w ≡ Found m → ChangesReached x p m.world
  store_changes s w m r e =
      let h = both (words_at y p s) (λ words. stored words (place_in s) w >>= with_words_at y p s) m e in
      put_changes s (stored h.first (place_in s) w) m r h.then

  pub number_changes : (kind : Kind) (s : Spot) (z : ℤ) (m : Memory) → ReachedSpot x p s → store_number kind y p s z ≡ Found m → ChangesReached x p m.world
  number_changes kind s z m r e =
      let h = both (words_at y p s) (λ words. with_number_at kind words (place_in s) z >>= with_words_at y p s) m e in
      put_changes s (with_number_at kind h.first (place_in s) z) m r h.then

  -- A place that isn't the process's own, of whichever process its frames are.
  far_words : (q : Process) (place : Place) (n : ℤ) (ws : List Word) (m : Memory) → ReachedSpot x p (Far place n)
      → with_words_at y q (Far place n) ws ≡ Found m → ChangesReached x p m.world
  far_words q (InFrame s) n ws m r e = changed_to y m.world (ap Memory.world (found_same _ m e)) before
  far_words q (InBlock k) n ws m r e =
      let h = both (with_data y k ws) (λ z. Found (memory z q)) m e in
      changed_to h.first m.world (ap Memory.world (found_same _ m h.then)) (data_changes h.first k ws r h.is)

  pub far_changes : (q : Process) (place : Place) (n : ℤ) (w : Word) (m : Memory) → ReachedSpot x p (Far place n)
      → store y q (Far place n) w ≡ Found m → ChangesReached x p m.world
  far_changes q place n w m r e =
      let h = both (words_at y q (Far place n)) (λ words. stored words n w >>= with_words_at y q (Far place n)) m e in
      let g = both (stored h.first n w) (with_words_at y q (Far place n)) m h.then in
      far_words q place n g.first m r g.then

  pub array_changes : (z : World) (m : ℕ) (ws : List Word) → Reaches x p m → with_data y m ws ≡ Found z → ChangesReached x p z
  array_changes z m ws r e = data_changes z m ws r e

-- Nothing changes, or there is one block more.
pub none_changed : (x : World) (p : Process) → ChangesReached x p x
none_changed x p n b there not = there

pub block_added : (x : World) (p : Process) (b : Block) → ChangesReached x p (with_block x b)
block_added x p b n c there not = more_there x.heap (Some b) n c there

-- ---- frames that are made

made_leads : (fs : List Frame) (s : ℕ) (f : Frame) (n : ℕ) → made_frame fs s ≡ Found f → SomeLeads f.words n → FramesLead fs n
made_leads [] s f n e l = absurd cc
made_leads (g ∷ fs) s f n e l = go (nat_eq g.serial s) e (λ h. made_leads fs s f n h l)
  where
    go : (b : Bool) → (if b then Found g else made_frame fs s) ≡ Found f → (made_frame fs s ≡ Found f → FramesLead fs n) → FramesLead (g ∷ fs) n
    go true e rest = inl (inr (subst (λ h. SomeLeads h.words n) (sym (found_same g f e)) l))
    go false e rest = inr (rest e)

behind_others : (fs gs : List Frame) (n : ℕ) → FramesLead gs n → FramesLead (fs ++ gs) n
behind_others [] gs n l = l
behind_others (f ∷ fs) gs n l = inr (behind_others fs gs n l)

-- The words of a frame lead only to blocks that the process reaches.
abbrev pub NearFrame : World → Process → Frame → Type 0
NearFrame x p f = (n : ℕ) → SomeLeads f.words n → Reaches x p n

module _ (x : World) (p : Process) where
  pub frame_near : (w : Word) (f : Frame) → control.frame_at x p w ≡ Found f → NearFrame x p f
  frame_near (Address (InFrame s) at) f e n l =
      let h = both (words_in s (all_frames p)) (λ words. if int_eq at (pos 0) then made_frame p.made s else Wrong type_check) f e in
      own n (inr (behind_others p.below p.made n (go (int_eq at (pos 0)) h.then)))
    where
      go : (b : Bool) → (if b then made_frame p.made s else Wrong type_check) ≡ Found f → FramesLead p.made n
      go true e = made_leads p.made s f n e l
      go false e = absurd cc
  frame_near (Address (InBlock k) at) f e n l = let h = both (block x k) (λ b. Wrong type_check) f e in let g = h.then in absurd cc
  frame_near (Plain z) f e n l = absurd cc
  frame_near (Refer r) f e n l = absurd cc

  pub answer_reached : (f : Frame) (s : Spot) → NearFrame x p f → control.answer_spot f.words ≡ Found s → ReachedSpot x p s
  answer_reached f s near e =
      let h = both (word_at f.words (pos 16)) (λ w. behind w (pos 0)) s e in
      behind_reached x p h.first (pos 0) s (λ n l. near n (word_leads f.words (pos 16) h.first n h.is l)) h.then

  pub place_reached : (s : Spot) (place : Place) (n : ℤ) → ReachedSpot x p s → place_of s ≡ Found place → ReachedSpot x p (Far place n)
  place_reached (Far (InFrame k) at) place n r e = subst (λ q. ReachedSpot x p (Far q n)) (found_same _ place e) tt
  place_reached (Far (InBlock k) at) place n r e = subst (λ q. ReachedSpot x p (Far q n)) (found_same _ place e) r
  place_reached (Own at) place n r e = absurd cc
  place_reached (Data at) place n r e = absurd cc
