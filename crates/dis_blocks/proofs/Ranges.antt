-- The words of an array, as it is made.
use Rattle.std.proofs.Common.{◌≡◌, ℕ, zero, suc, ◌+◌, ◌<◌, Bool, true, false, List, [], ◌∷◌, ◌++◌, map, replicate, pos, None, refl, sym, ap, ◌∙◌, arith, if◌then◌else◌}
use Rattle.std.specs.List.{range_with_len}
use Rattle.dis_file.specs.declared.types.TypeDesc.{TypeDesc}
use Rattle.ref_heap.specs.declared.word.Word as code_word
use Rattle.ref_heap.specs.Words.{cell_of, plain, naming}
use Rattle.dis_meaning.specs.Words.{Plain, Refer}
use Rattle.dis_meaning.specs.Counts.{in_words, refers}
use Rattle.dis_memory.specs.Blocks.{blank_word}
use Rattle.dis_places.specs.Words.{view_cells, view_words}
use Rattle.dis_stores.proofs.Named.{cells_named}
use Rattle.dis_blocks.proofs.Bare.{as_cells}

-- One word more.
pub range_more : {A : Type 0} (f : ℕ → A) (from n m : ℕ) → from + n ≡ m → map f (range_with_len from (suc n)) ≡ map f (range_with_len from n) ++ f m ∷ []
range_more f from zero m e = let same : from ≡ m = omega (arith, e) in ap (λ k. f k ∷ []) same
range_more f from (suc n) m e = ap (λ xs. f from ∷ xs) (range_more f (from + 1) n m (omega (arith, e)))

-- Where each word is 0, so are all of them.
all_zero : (desc : TypeDesc) (from n : ℕ) → ((k : ℕ) → k < from + n → blank_word desc k ≡ Plain (pos 0)) →
    view_cells (map plain (replicate n 0)) ≡ map (blank_word desc) (range_with_len from n)
all_zero desc from zero h = refl
all_zero desc from (suc n) h =
    ap (λ w. w ∷ view_cells (map plain (replicate n 0))) (sym (h from (omega arith)))
    ∙ ap (λ ws. blank_word desc from ∷ ws) (all_zero desc (from + 1) n (λ k lt. h k (omega (arith, lt))))

pub zero_words : (desc : TypeDesc) (n : ℕ) → ((k : ℕ) → k < n → blank_word desc k ≡ Plain (pos 0)) →
    view_cells (map plain (replicate n 0)) ≡ map (blank_word desc) (range_with_len 0 n)
zero_words desc n h = all_zero desc 0 n (λ k lt. h k (omega (arith, lt)))

-- No word names anything.
one_bare : (desc : TypeDesc) (k n : ℕ) → refers n (blank_word desc k) ≡ 0
one_bare desc k n = go _
  where
    go : (b : Bool) → refers n (if b then Refer None else Plain (pos 0)) ≡ 0
    go true = refl
    go false = refl

range_bare : (desc : TypeDesc) (from count n : ℕ) → in_words n (map (blank_word desc) (range_with_len from count)) ≡ 0
range_bare desc from zero n = refl
range_bare desc from (suc count) n = let a = one_bare desc from n in let r = range_bare desc (from + 1) count n in omega (arith, a, r)

pub words_bare : (desc : TypeDesc) (count : ℕ) (ws : List code_word.Word) → view_words ws ≡ map (blank_word desc) (range_with_len 0 count) →
    (n : ℕ) → naming (map cell_of ws) n ≡ 0
words_bare desc count ws e n = sym (cells_named (map cell_of ws) n) ∙ ap (in_words n) (as_cells ws ∙ e) ∙ range_bare desc 0 count n
