-- How often words, frames and processes name a block, when one word takes the place of another.
use Rattle.std.proofs.Common.{◌≡◌, ℕ, zero, suc, ◌+◌, List, [], ◌∷◌, ◌++◌, cond, Some, None, refl, ap, arith}
use Rattle.std.proofs.lemmas.List.Sums.{sum_by-cons}
use Rattle.std.specs.Prelude.{slice_get, slice_set, reverse}
use Rattle.std.proofs.lemmas.List.{reverse-append}
use Rattle.ref_heap.specs.declared.word.Word as code_word
use Rattle.ref_heap.specs.Words.{Cell, plain, refer, in_block, cell_of, naming, refers}
use Rattle.ref_heap.specs.Words as cells
use Rattle.dis_meaning.specs.Counts as counts
use Rattle.dis_meaning.specs.Counts.{in_words, in_frame, in_frames}
use Rattle.dis_meaning.specs.Process.{Frame}
use Rattle.dis_places.specs.Words.{view_cell, view_cells, view_word, view_words}
use Rattle.dis_stores.specs.Storing.{named}

-- A word names a block as its cell does.
cell_named : (c : Cell) (n : ℕ) → counts.refers n (view_cell c) ≡ naming (c ∷ []) n
cell_named (plain v) n = refl
cell_named (refer None) n = refl
cell_named (refer (Some m)) n = omega (arith, sum_by-cons (λ c. cond (refers n c) 1 0) (refer (Some m)) [])
cell_named (in_block s v) n = refl
cell_named (cells.in_frame s v) n = refl

pub word_named : (w : code_word.Word) (n : ℕ) → counts.refers n (view_word w) ≡ named w n
word_named w n = cell_named (cell_of w) n

pub cells_named : (cs : List Cell) (n : ℕ) → in_words n (view_cells cs) ≡ naming cs n
cells_named [] n = refl
cells_named (c ∷ cs) n =
    let h = cell_named c n in let r = cells_named cs n in
    let a = sum_by-cons (λ c. cond (refers n c) 1 0) c cs in let b = sum_by-cons (λ c. cond (refers n c) 1 0) c [] in
    omega (arith, h, r, a, b)

-- One word takes the place of another.
pub words_set : (ws : List code_word.Word) (k : ℕ) (old new : code_word.Word) (n : ℕ) → slice_get ws k ≡ Some old →
    in_words n (view_words (slice_set ws k new)) + named old n ≡ in_words n (view_words ws) + named new n
words_set [] k old new n h = absurd cc
words_set (w ∷ ws) zero old new n h =
    let same : w ≡ old = cc in let e = ap (λ w. counts.refers n (view_word w)) same in let a = word_named old n in let b = word_named new n in
    omega (arith, e, a, b)
words_set (w ∷ ws) (suc k) old new n h = let r = words_set ws k old new n h in omega (arith, r)

-- One frame takes the place of another.
pub frames_set : (fs : List Frame) (k : ℕ) (f g : Frame) (n : ℕ) → slice_get fs k ≡ Some f → in_frames n (slice_set fs k g) + in_frame n f ≡ in_frames n fs + in_frame n g
frames_set [] k f g n h = absurd cc
frames_set (f' ∷ fs) zero f g n h = let same : f' ≡ f = cc in let e = ap (in_frame n) same in omega (arith, e)
frames_set (f' ∷ fs) (suc k) f g n h = let r = frames_set fs k f g n h in omega (arith, r)

frames_append : (fs gs : List Frame) (n : ℕ) → in_frames n (fs ++ gs) ≡ in_frames n fs + in_frames n gs
frames_append [] gs n = omega arith
frames_append (f ∷ fs) gs n = let r = frames_append fs gs n in omega (arith, r)

pub frames_reverse : (fs : List Frame) (n : ℕ) → in_frames n (reverse fs) ≡ in_frames n fs
frames_reverse [] n = refl
frames_reverse (f ∷ fs) n =
    let e = ap (in_frames n) (reverse-append (f ∷ []) fs) in let a = frames_append (reverse fs) (f ∷ []) n in let r = frames_reverse fs n in
    omega (arith, e, a, r)
