-- A string that a word of a frame alone refers to.
use Rattle.std.proofs.Common.{◌≡◌, ℕ, ◌+◌, ◌-◌, ◌≤◌, ℤ, Bool, true, false, List, [], ◌∷◌, ◌++◌, Option, Some, None, refl, sym, ap, ◌∙◌, arith, if◌then◌else◌}
use Rattle.std.specs.Prelude.{slice_get, nat_eq}
use Rattle.ref_heap.specs.Store.{Store, IsSole, AreHeld, at, count, count_in, inside}
use Rattle.dis_meaning.specs.Counts.{in_words, in_frames}
use Rattle.dis_meaning.specs.Words.{InBlock, InFrame, Word, Refer, Access, Found, Wrong, Raises, ◌>>=◌, type_check, or_wrong, word_number, word_at, stored}
use Rattle.dis_meaning.specs.Process.{Frame, Process, with_frames, with_words}
use Rattle.dis_meaning.specs.Places.{Spot, Own, Data, Far, place_in, words_in, all_frames, with_frame_words}
use Rattle.dis_memory.specs.Blocks.{World}
use Rattle.dis_memory.specs.Naming.{names}
use Rattle.dis_memory.specs.Places as places
use Rattle.dis_memory.specs.Places.{memory, read, store, words_at}
use Rattle.dis_stores.specs.Storing.{rested, settled}
use Rattle.dis_results.proofs.Live.{word_counted}
use Rattle.dis_strings.specs.Renewing.{in_frame, MayRenew}

-- ---- words of frames, whatever the blocks

pub read_framed : (y z : World) (q : Process) (d : Spot) → in_frame d ≡ true → read y q d ≡ read z q d
read_framed y z q (Own byte) f = refl
read_framed y z q (Data byte) f = absurd cc
read_framed y z q (Far (InFrame s) byte) f = refl
read_framed y z q (Far (InBlock n) byte) f = absurd cc

same_then : (a : Access (List Word)) (f : List Word → Process) (y z : World) (m : places.Memory) → rested (a >>= λ ws. Found (memory y (f ws))) ≡ Found m →
    (m.world ≡ y) × (rested (a >>= λ ws. Found (memory z (f ws))) ≡ Found (memory z m.process))
same_then (Found ws) f y z m e =
    let is : memory y (settled (f ws)) ≡ m = cc in
    (ap (λ (n : places.Memory). n.world) (sym is), ap (λ (n : places.Memory). Found (memory z n.process)) is)
same_then (Wrong n) f y z m e = absurd cc
same_then (Raises text) f y z m e = absurd cc

pub store_framed : (y z : World) (q : Process) (d : Spot) (w : Word) (m : places.Memory) → in_frame d ≡ true → rested (store y q d w) ≡ Found m →
    (m.world ≡ y) × (rested (store z q d w) ≡ Found (memory z m.process))
store_framed y z q (Own byte) w m f e = same_then (stored q.frame.words byte w) (λ ws. with_frames q (with_words q.frame ws) q.below q.made) y z m e
store_framed y z q (Data byte) w m f e = absurd cc
store_framed y z q (Far (InFrame s) byte) w m f e = go (words_in s (all_frames q)) e
  where
    go : (a : Access (List Word)) → rested (a >>= λ ws. stored ws byte w >>= λ vs. Found (memory y (with_frame_words q s vs))) ≡ Found m →
        (m.world ≡ y) × (rested (a >>= λ ws. stored ws byte w >>= λ vs. Found (memory z (with_frame_words q s vs))) ≡ Found (memory z m.process))
    go (Found ws) e = same_then (stored ws byte w) (λ vs. with_frame_words q s vs) y z m e
    go (Wrong n) e = absurd cc
    go (Raises text) e = absurd cc
store_framed y z q (Far (InBlock n) byte) w m f e = absurd cc

-- ---- what stands in a frame is named

word_there : (ws : List Word) (byte : ℤ) (w : Word) → word_at ws byte ≡ Found w → (k : ℕ) × (slice_get ws k ≡ Some w)
word_there ws byte w e = go (word_number byte) e
  where
    one : (k : ℕ) (o : Option Word) → slice_get ws k ≡ o → or_wrong type_check o ≡ Found w → (k : ℕ) × (slice_get ws k ≡ Some w)
    one k None is e = absurd cc
    one k (Some v) is e = let same : v ≡ w = cc in (k, is ∙ ap Some same)

    go : (a : Access ℕ) → (a >>= λ k. or_wrong type_check (slice_get ws k)) ≡ Found w → (k : ℕ) × (slice_get ws k ≡ Some w)
    go (Found k) e = one k (slice_get ws k) refl e
    go (Wrong m) e = absurd cc
    go (Raises text) e = absurd cc

frame_counted : (n s : ℕ) (fs : List Frame) (ws : List Word) → words_in s fs ≡ Found ws → in_words n ws ≤ in_frames n fs
frame_counted n s [] ws e = absurd cc
frame_counted n s (f ∷ fs) ws e = go (nat_eq f.serial s) e (frame_counted n s fs ws)
  where
    go : (b : Bool) → (if b then Found f.words else words_in s fs) ≡ Found ws → (words_in s fs ≡ Found ws → in_words n ws ≤ in_frames n fs) → in_words n ws ≤ in_frames n (f ∷ fs)
    go true e more = let same : f.words ≡ ws = cc in let h = ap (in_words n) same in omega (arith, h)
    go false e more = let h = more e in omega (arith, h)

frames_both : (n : ℕ) (fs gs : List Frame) → in_frames n (fs ++ gs) ≡ in_frames n fs + in_frames n gs
frames_both n [] gs = omega arith
frames_both n (f ∷ fs) gs = let h = frames_both n fs gs in omega (arith, h)

words_named : (y : World) (q : Process) (d : Spot) (n : ℕ) (ws : List Word) → in_frame d ≡ true → words_at y q d ≡ Found ws → 1 ≤ in_words n ws → 1 ≤ names q n
words_named y q (Own byte) n ws f e named = let same : q.frame.words ≡ ws = cc in let h = ap (in_words n) same in omega (arith, h, named)
words_named y q (Data byte) n ws f e named = absurd cc
words_named y q (Far (InFrame s) byte) n ws f e named =
    let h = frame_counted n s (all_frames q) ws e in let b = frames_both n q.below q.made in omega (arith, h, b, named)
words_named y q (Far (InBlock k) byte) n ws f e named = absurd cc

pub frame_named : (y : World) (q : Process) (d : Spot) (n : ℕ) → in_frame d ≡ true → read y q d ≡ Found (Refer (Some n)) → 1 ≤ names q n
frame_named y q d n f e = go (words_at y q d) refl e
  where
    go : (a : Access (List Word)) → words_at y q d ≡ a → (a >>= λ words. word_at words (place_in d)) ≡ Found (Refer (Some n)) → 1 ≤ names q n
    go (Found ws) is e = let t = word_there ws (place_in d) (Refer (Some n)) e in words_named y q d n ws f is (word_counted n ws t.0 t.1)
    go (Wrong k) is e = absurd cc
    go (Raises text) is e = absurd cc

-- The only reference to a block is held, so none stands in a block.
pub sole_of : (h : Store) (k : ℕ) (given : ℕ → ℕ) → MayRenew h k → AreHeld h given → 1 ≤ given k → IsSole h k
sole_of h k given may held named =
    let was : count (at h) k ≡ 1 = ap count_in may.live ∙ may.only in
    let a : given k ≤ count (at h) k - inside h k = held k in
    record { block = may.block; live = may.live; only = may.only; unnamed = omega (arith, a, was, named) }
