-- A frame that is made.
use Rattle.std.proofs.Common.{◌≡◌, ℕ, ◌+◌, ◌<◌, ◌≤◌, Bool, true, false, List, [], ◌∷◌, ◌++◌, map, Option, Some, None, append_assoc, eq-eqb, ◌⊎◌, inl, inr, refl, sym, ap, ◌∙◌, subst, arith, rules, tests, if◌then◌else◌}
use Rattle.std.specs.Prelude.{pos, reverse, nat_eq, take}
use Rattle.std.proofs.lemmas.Bool.{eqb-true}
use Rattle.std.proofs.lemmas.Bool.Decides.{nat_tests}
use Rattle.std.proofs.lemmas.List.{map-append, length-append}
use Rattle.std.proofs.Math.Seq.{take-append_seam}
use Rattle.process_model.specs.Process.{Went}
use Rattle.ref_heap.specs.declared.word.Ref.{Ref}
use Rattle.ref_heap.specs.declared.word.Word as code_word
use Rattle.ref_heap.specs.declared.word.Word.TheVariants as word
use Rattle.ref_heap.specs.Words as cells
use Rattle.ref_heap.specs.Words.{Cell, plain, refer, in_block, cell_of, is_reference, naming}
use Rattle.ref_heap.specs.Store.{Store, AreHeld, IsLive, Block, at, count, count_in}
use Rattle.dis_meaning.specs.Counts.{in_words}
use Rattle.dis_meaning.proofs.Given.{Finds, finds_on, on_any}
use Rattle.dis_meaning.specs.Words.{InBlock, InFrame, Word, Address, Access, Found, Wrong, Raises, ◌>>=◌, fits, word_at, stored}
use Rattle.dis_meaning.specs.Process.{Frame, Process, with_words, with_frames}
use Rattle.dis_meaning.specs.Places.{Spot, Own, Data, Far, change, place_in, words_in, all_frames}
use Rattle.dis_memory.specs.Blocks.{World, Outer, block}
use Rattle.dis_memory.specs.Control.{framed, with_frame_made}
use Rattle.dis_memory.specs.Naming.{names}
use Rattle.dis_memory.specs.Places as places
use Rattle.dis_memory.specs.Process.{next}
use Rattle.dis_places.specs.declared.frame.Frame as code_frame
use Rattle.dis_places.specs.declared.memory.Memory.{Memory}
use Rattle.dis_places.specs.declared.process.Process as code_process
use Rattle.dis_places.specs.Frames.{view_frame, view_frames, one, occurs}
use Rattle.dis_places.specs.Frames as frames
use Rattle.dis_places.specs.View.{view_process}
use Rattle.dis_places.specs.declared.fault.Halt.{Halt}
use Rattle.dis_places.specs.declared.fault.Halt.TheVariants as halt
use Rattle.dis_places.specs.Words.{view_cell, view_words, Halts}
use Rattle.dis_places.proofs.Serials.{which, one_here, one_elsewhere, count_append, count_reverse, change_elsewhere}
use Rattle.dis_stores.specs.Storing.{named, rested, settled, IsNoMemory}
use Rattle.dis_stores.proofs.Named.{cells_named, word_named}
use Rattle.dis_blocks.proofs.Bare.{as_cells}
use Rattle.dis_results.specs.Going.{moved_on}
use Rattle.dis_blocks.specs.Making.{Untouched}
use Rattle.dis_calls.specs.Coming.{LeftAlone, StandsStill}
use Rattle.dis_serials.specs.Given.{AreGiven, HasGiven}
use Rattle.dis_calls.specs.Made.{blank_frame, with_made, without_last}
use Rattle.dis_calls.proofs.Calling.{count_pushed, frames_both}

-- ---- a serial of its own

-- No frame of the process has the next one.
none_given : (n : ℕ) (fs : List Frame) → AreGiven n fs → frames.count n fs ≡ 0
none_given n [] h = refl
none_given n (f ∷ fs) h = let a = one_elsewhere n f (apart f.serial n h.0) in let r = none_given n fs h.1 in omega (arith, a, r)
  where
    apart : (s n : ℕ) → s < n → nat_eq s n ≡ false
    apart s n lt = grind (arith, nat_tests, lt)

next_is_new : (x : World) (p : code_process.Process) → HasGiven x (view_process p) →
    occurs x.outside.frames (view_frame p.frame) (view_frames p.below.items) (view_frames p.made.items) ≡ 0
next_is_new x p h =
    let n = x.outside.frames in
    let a = none_given n (view_frame p.frame ∷ []) (h.running, tt) in
    let b = none_given n (reverse (view_frames p.below.items)) h.waiting in
    let r = count_reverse n (view_frames p.below.items) in
    let c = none_given n (view_frames p.made.items) h.made in
    omega (arith, a, b, r, c)

pub made_once : (x : World) (p : code_process.Process) (f : code_frame.Frame) (made : List code_frame.Frame) → HasGiven x (view_process p) →
    f.serial ≡ x.outside.frames → made ≡ p.made.items ++ f ∷ [] →
    (n : ℕ) → occurs n (view_frame p.frame) (view_frames p.below.items) (view_frames made) ≤ 1
made_once x p f made h same m n = go (which (nat_eq f.serial n))
  where
    o : occurs n (view_frame p.frame) (view_frames p.below.items) (view_frames p.made.items) ≤ 1
    o = p.once n

    more : frames.count n (view_frames made) ≡ frames.count n (view_frames p.made.items) + one n (view_frame f)
    more = ap (λ fs. frames.count n (view_frames fs)) m ∙ count_pushed n p.made.items f

    go : (nat_eq f.serial n ≡ true) ⊎ (nat_eq f.serial n ≡ false) → occurs n (view_frame p.frame) (view_frames p.below.items) (view_frames made) ≤ 1
    go (inl e) =
        let is : x.outside.frames ≡ n = sym same ∙ search (rules, tests, e) in
        let none = subst (λ n. occurs n (view_frame p.frame) (view_frames p.below.items) (view_frames p.made.items) ≡ 0) is (next_is_new x p h) in
        let one = one_here n (view_frame f) e in
        omega (arith, none, more, one)
    go (inr e) = let none = one_elsewhere n (view_frame f) e in omega (arith, o, more, none)

-- ---- what a store keeps

-- How many frames were made, and the instance of the frame that runs.
pub record Keeps (x : World) (p : Process) (m : places.Memory) : Type 0 where
  pub outer : m.world.outside ≡ x.outside
  pub instance : m.process.frame.instance ≡ p.frame.instance

change_runs : (s : ℕ) (words : List Word) (f : Frame) → (change s words f).instance ≡ f.instance
change_runs s words f = go (nat_eq f.serial s)
  where
    go : (b : Bool) → (if b then with_words f words else f).instance ≡ f.instance
    go true = refl
    go false = refl

module _ (x : World) (p : Process) where
  in_place : (n : ℕ) (words : List Word) → Finds (Keeps x p) (places.with_data x n words >>= λ y. Found (places.memory y p))
  in_place n words =
      finds_on (λ (y : World). y.outside ≡ x.outside) (Keeps x p) (places.with_data x n words) _
      (on_any (λ (y : World). y.outside ≡ x.outside) (block x n) _ (λ b. refl)) (λ y e. record { outer = e; instance = refl })

  words_kept : (s : Spot) (words : List Word) → Finds (Keeps x p) (places.with_words_at x p s words)
  words_kept (Own at) words = record { outer = refl; instance = refl }
  words_kept (Data at) words = in_place p.frame.instance words
  words_kept (Far (InFrame s) at) words = record { outer = refl; instance = change_runs s words p.frame }
  words_kept (Far (InBlock n) at) words = in_place n words

  store_keeps : (s : Spot) (w : Word) → Finds (Keeps x p) (places.store x p s w)
  store_keeps s w = on_any (Keeps x p) (places.words_at x p s) _ (λ words. on_any (Keeps x p) (stored words (place_in s) w) _ (λ after. words_kept s after))

  stored_keeps : (s : Spot) (w : Word) (m : places.Memory) → places.store x p s w ≡ Found m → Keeps x p m
  stored_keeps s w m e = subst (Finds (Keeps x p)) e (store_keeps s w)

-- ---- one frame more, elsewhere

words_front : (t : ℕ) (fs gs : List Frame) (ws : List Word) → words_in t fs ≡ Found ws → words_in t (fs ++ gs) ≡ Found ws
words_front t [] gs ws e = absurd cc
words_front t (f ∷ fs) gs ws e = go (nat_eq f.serial t) e (words_front t fs gs ws)
  where
    go : (b : Bool) → (if b then Found f.words else words_in t fs) ≡ Found ws → (words_in t fs ≡ Found ws → words_in t (fs ++ gs) ≡ Found ws) →
        (if b then Found f.words else words_in t (fs ++ gs)) ≡ Found ws
    go true e more = e
    go false e more = more e

found_given : (n t : ℕ) (fs : List Frame) (ws : List Word) → AreGiven n fs → words_in t fs ≡ Found ws → t < n
found_given n t [] ws h e = absurd cc
found_given n t (f ∷ fs) ws h e = go (which (nat_eq f.serial t)) (found_given n t fs ws h.1)
  where
    go : (nat_eq f.serial t ≡ true) ⊎ (nat_eq f.serial t ≡ false) → (words_in t fs ≡ Found ws → t < n) → t < n
    go (inl same) more = let lt : f.serial < n = h.0 in let is = eqb-true f.serial t same in omega (arith, lt, is)
    go (inr other) more = more (sym (ap (λ b. if b then Found f.words else words_in t fs) other) ∙ e)

given_both : (n : ℕ) (fs gs : List Frame) → AreGiven n fs → AreGiven n gs → AreGiven n (fs ++ gs)
given_both n [] gs h g = g
given_both n (f ∷ fs) gs h g = (h.0, given_both n fs gs h.1 g)

module _ (x : World) (p : Process) (given : HasGiven x p) (words : List Word) where
  -- The frame that is made, and memory with it.
  abbrev pub made_new : Frame
  made_new = blank_frame x.outside.frames p.frame.instance words

  abbrev pub more : places.Memory → places.Memory
  more m = places.memory m.world (with_made m.process made_new)

  other : (t : ℕ) (ws : List Word) → words_in t (all_frames p) ≡ Found ws → nat_eq x.outside.frames t ≡ false
  other t ws e =
      let lt = found_given x.outside.frames t (all_frames p) ws (given.running, given_both x.outside.frames p.below p.made given.waiting given.made) e in
      grind (arith, nat_tests, lt)

  words_more : (s : Spot) (ws : List Word) → places.words_at x p s ≡ Found ws → places.words_at x (with_made p made_new) s ≡ Found ws
  words_more (Own at) ws e = e
  words_more (Data at) ws e = e
  words_more (Far (InFrame t) at) ws e =
      ap (λ fs. words_in t (p.frame ∷ fs)) (sym (append_assoc p.below p.made (made_new ∷ []))) ∙ words_front t (all_frames p) (made_new ∷ []) ws e
  words_more (Far (InBlock n) at) ws e = e

  pub read_more : (s : Spot) (o : Word) → places.read x p s ≡ Found o → places.read x (with_made p made_new) s ≡ Found o
  read_more s o e = go (places.words_at x p s) refl e
    where
      go : (a : Access (List Word)) → places.words_at x p s ≡ a → (a >>= λ words. word_at words (place_in s)) ≡ Found o → places.read x (with_made p made_new) s ≡ Found o
      go (Found ws) is e = ap (λ a. a >>= λ words. word_at words (place_in s)) (words_more s ws is) ∙ e
      go (Wrong n) is e = absurd cc
      go (Raises text) is e = absurd cc

  in_data : (n : ℕ) (ws : List Word) → (places.with_data x n ws >>= λ y. Found (places.memory y (with_made p made_new))) ≡
      (places.with_data x n ws >>= (λ y. Found (places.memory y p)) >>= λ m. Found (more m))
  in_data n ws = go (places.with_data x n ws)
    where
      go : (a : Access World) → (a >>= λ y. Found (places.memory y (with_made p made_new))) ≡ (a >>= (λ y. Found (places.memory y p)) >>= λ m. Found (more m))
      go (Found y) = refl
      go (Wrong k) = refl
      go (Raises text) = refl

  put_more : (s : Spot) (before ws : List Word) → places.words_at x p s ≡ Found before →
      places.with_words_at x (with_made p made_new) s ws ≡ (places.with_words_at x p s ws >>= λ m. Found (more m))
  put_more (Own at) before ws is = refl
  put_more (Data at) before ws is = in_data p.frame.instance ws
  put_more (Far (InFrame t) at) before ws is =
      ap (λ made. Found (places.memory x (with_frames p (change t ws p.frame) (map (change t ws) p.below) made)))
      (map-append (change t ws) p.made (made_new ∷ [])
      ∙ ap (λ g. map (change t ws) p.made ++ g ∷ []) (change_elsewhere t ws made_new (one_elsewhere t made_new (other t before is))))
  put_more (Far (InBlock n) at) before ws is = in_data n ws

  store_more : (s : Spot) (w o : Word) → places.read x p s ≡ Found o → places.store x (with_made p made_new) s w ≡ (places.store x p s w >>= λ m. Found (more m))
  store_more s w o r = go (places.words_at x p s) refl r
    where
      after : (before : List Word) → places.words_at x p s ≡ Found before → (a : Access (List Word)) →
          (a >>= places.with_words_at x (with_made p made_new) s) ≡ (a >>= places.with_words_at x p s >>= λ m. Found (more m))
      after before is (Found ws) = put_more s before ws is
      after before is (Wrong n) = refl
      after before is (Raises text) = refl

      go : (a : Access (List Word)) → places.words_at x p s ≡ a → (a >>= λ words. word_at words (place_in s)) ≡ Found o →
          places.store x (with_made p made_new) s w ≡ (places.store x p s w >>= λ m. Found (more m))
      go (Found ws) is e =
          ap (λ a. a >>= λ words. stored words (place_in s) w >>= places.with_words_at x (with_made p made_new) s) (words_more s ws is)
          ∙ after ws is (stored ws (place_in s) w)
          ∙ ap (λ a. a >>= (λ words. stored words (place_in s) w >>= places.with_words_at x p s) >>= λ m. Found (more m)) (sym is)
      go (Wrong n) is e = absurd cc
      go (Raises text) is e = absurd cc

  -- The frame is made behind the store.
  pub framed_on : (s : Spot) (w o : Word) (y : World) (q : Process) → places.read x p s ≡ Found o →
      rested (places.store x (with_made p made_new) s w) ≡ Found (places.memory y (settled q)) →
      (places.store x p s w >>= λ m. Found (next (framed m words))) ≡ Found (Went (with_frame_made y) (moved_on q))
  framed_on s w o y q r e = go (places.store x p s w) refl (sym (ap rested (store_more s w o r)) ∙ e)
    where
      go : (a : Access places.Memory) → places.store x p s w ≡ a → rested (a >>= λ m. Found (more m)) ≡ Found (places.memory y (settled q)) →
          (a >>= λ m. Found (next (framed m words))) ≡ Found (Went (with_frame_made y) (moved_on q))
      go (Found m) is e =
          let k = stored_keeps x p s w m is in
          let same : places.memory m.world (settled (with_made m.process made_new)) ≡ places.memory y (settled q) = cc in
          let first : blank_frame m.world.outside.frames m.process.frame.instance words ≡ made_new =
          ap (λ (o : Outer). blank_frame o.frames m.process.frame.instance words) k.outer ∙ ap (λ n. blank_frame x.outside.frames n words) k.instance in
          ap (λ f. Found (Went (with_frame_made m.world) (moved_on (with_made m.process f)))) first
          ∙ ap (λ (n : places.Memory). Found (Went (with_frame_made n.world) (moved_on n.process))) same
      go (Wrong n) is e = absurd cc
      go (Raises text) is e = absurd cc

-- What the new frame refers to: its instance alone.
pub more_names : (s : ℕ) (q : Process) (r : Ref) (ws : List code_word.Word) → ((n : ℕ) → naming (map cell_of ws) n ≡ 0) →
    (n : ℕ) → names (with_made q (blank_frame s r.serial (view_words ws))) n ≡ names q n + named (word.Refer (Some r)) n
more_names s q r ws bare n =
    let a = word_named (word.Refer (Some r)) n in
    let b : in_words n (view_words ws) ≡ 0 = ap (in_words n) (sym (as_cells ws)) ∙ cells_named (map cell_of ws) n ∙ bare n in
    let e = frames_both n q.made (blank_frame s r.serial (view_words ws) ∷ []) in
    omega (arith, a, b, e)

-- ---- the instance of the frame that runs is there

counted_live : (h : Store) (n : ℕ) → 1 ≤ count (at h) n → IsLive h n
counted_live h n e = go (at h n) refl e
  where
    go : (o : Option Block) → at h n ≡ o → 1 ≤ count_in o → IsLive h n
    go None is e = absurd (omega (arith, e))
    go (Some b) is e = record { block = b; live = is }

pub instance_live : (h : Store) (p : code_process.Process) → AreHeld h (names (view_process p)) → IsLive h p.frame.instance.serial
instance_live h p held =
    let n = p.frame.instance.serial in
    let a = held n in
    let b = ap {B = ℕ} (λ b. if b then 1 else 0) (eq-eqb n n refl) in
    counted_live h n (omega (arith, a, b))

-- ---- what ends otherwise

-- Nothing but memory was wanting, where something is found.
pub only_memory : {T : Type 0} (h : Halt) (a : Access T) (t : T) → a ≡ Found t → Halts h a → IsNoMemory h
only_memory halt.NoMemory a t e g = tt
only_memory (halt.Fault f) a t e g = absurd cc
only_memory (halt.Raises r) a t e g = absurd cc

pub of_memory : {T : Type 0} (h : Halt) (a : Access T) → IsNoMemory h → Halts h a
of_memory halt.NoMemory a n = tt
of_memory (halt.Fault f) a n = absurd n
of_memory (halt.Raises r) a n = absurd n

pub takes_address : (c : Cell) (n : ℕ) → is_reference c ≡ false → fits (view_cell c) (Address (InFrame n) (pos 0)) ≡ true
takes_address (plain v) n e = refl
takes_address (refer r) n e = absurd cc
takes_address (in_block s v) n e = refl
takes_address (cells.in_frame s v) n e = refl

pub wrong_on : {T : Type 0} (a : Access places.Memory) (f : places.Memory → Access T) (n : ℕ) → rested a ≡ Wrong n → (a >>= f) ≡ Wrong n
wrong_on (Found m) f n e = absurd cc
wrong_on (Wrong k) f n e = let same : k ≡ n = cc in ap Wrong same
wrong_on (Raises text) f n e = absurd cc

-- The frame that was made last is no more.
pub counts_fewer : (n : ℕ) (old new rest : List code_frame.Frame) → old ≡ new ++ rest → frames.count n (view_frames new) ≤ frames.count n (view_frames old)
counts_fewer n old new rest e =
    let a = ap (λ fs. frames.count n (view_frames fs)) e in
    let b = ap (frames.count n) (map-append view_frame new rest) in
    let d = count_append n (view_frames new) (view_frames rest) in
    omega (arith, a, b, d)

pub last_gone : (q : Process) (f : Frame) → without_last (with_made q f) ≡ q
last_gone q f =
    ap (λ fs. record { number = q.number; frame = q.frame; below = q.below; made = fs; printing = q.printing })
    (ap (λ k. take k (q.made ++ f ∷ [])) (simp length-append (omega arith)) ∙ take-append_seam q.made (f ∷ []))

pub left_alone : (m m' : Memory) (p p' : code_process.Process) → Untouched m p m' p → StandsStill p p' → LeftAlone m p m' p'
left_alone m m' p p' u still = record { world = u.world; held = u.held; tables = u.tables; process = still }
