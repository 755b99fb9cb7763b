-- What a process names, its frames refer to, and the other way round; so what it names after a step is there.
use Rattle.std.proofs.Common.{◌≡◌, ℕ, ◌+◌, ◌<◌, true, List, [], ◌∷◌, ◌++◌, inl, inr, Some, None, sym, ap, subst, arith, if◌then◌else◌}
use Rattle.std.specs.Prelude.{nat_eq}
use Rattle.std.proofs.lemmas.Bool.{eqb-true, eq-eqb}
use Rattle.process_model.specs.Process.{Went}
use Rattle.heap_model.specs.Kept as kept
use Rattle.heap_model.specs.Heap.{at, there, in_one, graph}
use Rattle.heap_model.proofs.Heap.{there_is}
use Rattle.dis_file.specs.declared.object.Object.{Object}
use Rattle.dis_meaning.specs.Words.{Word, Plain, Refer, Address}
use Rattle.dis_meaning.specs.Counts.{refers, in_words, in_frame, in_frames}
use Rattle.dis_meaning.specs.Places.{all_frames}
use Rattle.dis_meaning.specs.Process.{Frame, Process}
use Rattle.dis_memory.specs.Blocks.{World, words_in}
use Rattle.dis_memory.specs.Naming.{inside, names}
use Rattle.dis_memory.specs.Sound.{Refers, SomeRefers, FrameRefers, FramesRefer, NothingDangles, NothingDanglesAfter}
use Rattle.dis_memory.specs.Step.{step}
use Rattle.dis_memory.proofs.Keeping.{nothing_comes_to_dangle}
use Rattle.value_roots.proofs.Words.{either, one_or_none, one_if, refers_same}

-- ---- words

word_refers : (n : ℕ) (w : Word) → 0 < refers n w → Refers w n
word_refers n (Refer (Some m)) p = ap Some (refers_same n m p)
word_refers n (Refer None) p = absurd (omega arith)
word_refers n (Plain z) p = absurd (omega arith)
word_refers n (Address place at) p = absurd (omega arith)

word_names : (n : ℕ) (w : Word) → Refers w n → 0 < refers n w
word_names n (Refer (Some m)) r = one_if (nat_eq m n) (eq-eqb m n (let z : m ≡ n = cc in z))
word_names n (Refer None) r = absurd cc
word_names n (Plain z) r = absurd r
word_names n (Address place at) r = absurd r

words_refer : (n : ℕ) (ws : List Word) → 0 < in_words n ws → SomeRefers ws n
words_refer n [] p = absurd (omega arith)
words_refer n (w ∷ ws) p =
    elim (either (refers n w) (in_words n ws) p) [ inl q ↦ inl (word_refers n w q) | inr q ↦ inr (words_refer n ws q) ]

words_name : (n : ℕ) (ws : List Word) → SomeRefers ws n → 0 < in_words n ws
words_name n [] r = absurd r
words_name n (w ∷ ws) (inl r) = let z = word_names n w r in omega arith
words_name n (w ∷ ws) (inr r) = let z = words_name n ws r in omega arith

-- ---- frames

frame_refers : (n : ℕ) (f : Frame) → 0 < in_frame n f → FrameRefers f n
frame_refers n f p = elim (either (if nat_eq f.instance n then 1 else 0) (in_words n f.words) p) [
  | inl q ↦ inl (eqb-true f.instance n (one_or_none (nat_eq f.instance n) q))
  | inr q ↦ inr (words_refer n f.words q)
]

frame_names : (n : ℕ) (f : Frame) → FrameRefers f n → 0 < in_frame n f
frame_names n f (inl r) = let z = one_if (nat_eq f.instance n) (eq-eqb f.instance n r) in omega arith
frame_names n f (inr r) = let z = words_name n f.words r in omega arith

frames_refer : (n : ℕ) (fs : List Frame) → 0 < in_frames n fs → FramesRefer fs n
frames_refer n [] p = absurd (omega arith)
frames_refer n (f ∷ fs) p =
    elim (either (in_frame n f) (in_frames n fs) p) [ inl q ↦ inl (frame_refers n f q) | inr q ↦ inr (frames_refer n fs q) ]

first_refer : (n : ℕ) (fs gs : List Frame) → FramesRefer fs n → FramesRefer (fs ++ gs) n
first_refer n [] gs r = absurd r
first_refer n (f ∷ fs) gs (inl r) = inl r
first_refer n (f ∷ fs) gs (inr r) = inr (first_refer n fs gs r)

last_refer : (n : ℕ) (fs gs : List Frame) → FramesRefer gs n → FramesRefer (fs ++ gs) n
last_refer n [] gs r = r
last_refer n (f ∷ fs) gs r = inr (last_refer n fs gs r)

joined_name : (n : ℕ) (fs gs : List Frame) → FramesRefer (fs ++ gs) n → 0 < in_frames n fs + in_frames n gs
joined_name n [] [] r = absurd r
joined_name n [] (g ∷ gs) (inl r) = let z = frame_names n g r in omega arith
joined_name n [] (g ∷ gs) (inr r) = let z = joined_name n [] gs r in omega arith
joined_name n (f ∷ fs) gs (inl r) = let z = frame_names n f r in omega arith
joined_name n (f ∷ fs) gs (inr r) = let z = joined_name n fs gs r in omega arith

-- ---- processes

process_refers : (n : ℕ) (p : Process) → 0 < names p n → FramesRefer (all_frames p) n
process_refers n p q = elim (either (in_frame n p.frame) (in_frames n p.below + in_frames n p.made) q) [
  | inl r ↦ inl (frame_refers n p.frame r)
  | inr r ↦ elim (either (in_frames n p.below) (in_frames n p.made) r) [
    | inl s ↦ inr (first_refer n p.below p.made (frames_refer n p.below s))
    | inr s ↦ inr (last_refer n p.below p.made (frames_refer n p.made s))
  ]
]

process_names : (n : ℕ) (p : Process) → FramesRefer (all_frames p) n → 0 < names p n
process_names n p (inl r) = let z = frame_names n p.frame r in omega arith
process_names n p (inr r) = let z = joined_name n p.below p.made r in omega arith

-- ---- steps

nothing_dangles : (x : World) (p : Process) → kept.IsClosed (graph inside x.heap) → ((n : ℕ) → 0 < names p n → there (at x.heap n) ≡ true)
    → NothingDangles x p
nothing_dangles x p c live = record {
  heap = λ m n b e r.
      there_is (at x.heap n) (c.closed m n (ap there e) (subst (λ o. 0 < in_one inside o n) (sym e) (words_name n (words_in b) r)));
  process = λ n r. there_is (at x.heap n) (live n (process_names n p r));
}

pub still_there : (limit : ℕ) (objects : List Object) (x y : World) (q r : Process) → kept.IsClosed (graph inside x.heap)
    → ((n : ℕ) → 0 < names q n → there (at x.heap n) ≡ true) → step limit objects x q ≡ Went y r
    → (n : ℕ) → 0 < names r n → there (at y.heap n) ≡ true
still_there limit objects x y q r c live e n u =
    let after = subst NothingDanglesAfter e (nothing_comes_to_dangle limit objects x q (nothing_dangles x q c live)) in
    ap there (after.process n (process_refers n r u)).1
