-- Words, and what a block holds.
use Rattle.std.proofs.Common.{◌≡◌, ℕ, ◌+◌, cond, List, [], ◌∷◌, refl, ap, ◌∙◌, arith}
use Rattle.std.specs.Prelude.{map, slice_set}
use Rattle.std.proofs.lemmas.List.{map-set}
use Rattle.std.proofs.lemmas.List.Sums.{sum_by-cons}
use Rattle.ref_heap.specs.declared.word.Word.{Word}
use Rattle.ref_heap.specs.declared.word.Word.TheVariants.{Plain}
use Rattle.ref_heap.specs.Words.{Cell, plain, Content, wide, compact, cells, cell_of, naming, refers, with_cell}

pub naming_cons : (c : Cell) (cs : List Cell) (n : ℕ) → naming (c ∷ cs) n ≡ cond {A = ℕ} (refers n c) 1 0 + naming cs n
naming_cons c cs n = sum_by-cons _ c cs

pub plain_names : (xs : List ℕ) (n : ℕ) → naming (map plain xs) n ≡ 0
plain_names [] n = refl
plain_names (x ∷ xs) n = naming_cons (plain x) (map plain xs) n ∙ omega (arith, plain_names xs n)

pub wide_set : (ws ws' : List Word) (i : ℕ) (w : Word) (v : Content) → wide (map cell_of ws) ≡ v → ws' ≡ slice_set ws i w → wide (map cell_of ws') ≡ with_cell v i (cell_of w)
wide_set ws ws' i w v e f =
    ap (λ (x : List Word). wide (map cell_of x)) f ∙ ap wide (map-set cell_of ws i w) ∙ ap (λ (x : Content). with_cell x i (cell_of w)) e

pub compact_set : (ns ns' : List ℕ) (i : ℕ) (c : Cell) (v : Content) → compact ns ≡ v → compact ns' ≡ with_cell (compact ns) i c → compact ns' ≡ with_cell v i c
compact_set ns ns' i c v e f = f ∙ ap (λ (x : Content). with_cell x i c) e

pub plain_words : (ns : List ℕ) → map cell_of (map Plain ns) ≡ map plain ns
plain_words [] = refl
plain_words (n ∷ ns) = ap (λ (cs : List Cell). plain n ∷ cs) (plain_words ns)

pub widened_words : (ws : List Word) (ns : List ℕ) (v : Content) → compact ns ≡ v → ws ≡ map Plain ns → wide (map cell_of ws) ≡ wide (cells v)
widened_words ws ns v e f = ap (λ (x : List Word). wide (map cell_of x)) f ∙ ap wide (plain_words ns) ∙ ap (λ (x : Content). wide (cells x)) e
