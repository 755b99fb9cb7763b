-- Parts of lists of elements.
use Rattle.std.proofs.Common.{◌≡◌, ℕ, zero, suc, ◌+◌, ◌-◌, ◌*◌, ◌/◌, ◌%◌, ◌≤◌, Bool, true, false, cond, List, [], ◌∷◌, ◌++◌, take, drop, None, refl, sym, ap, ◌∙◌, arith}
use Rattle.std.specs.Prelude.{slice_range, if◌then◌else◌, ◌==◌, ◌&&◌, replicate}
use Rattle.std.specs.Prelude.{map}
use Rattle.std.proofs.lemmas.List.{map-append}
use Rattle.ref_heap.specs.declared.word.Word.{Word}
use Rattle.ref_heap.specs.Words.{Cell, cell_of, plain, refer, wide, compact, cells, naming, refers}
use Rattle.dis_values.proofs.Made.{naming_cons, plain_names}
use Rattle.dis_values.specs.Arrays.{element, elements_in, zeroed_word, zeroed_words, zeroed, words_for, any_marked, is_marked}

pub drop_elements : (size : ℕ) (words : List Cell) (f l a : ℕ) → a ≤ l → drop a (elements_in size words f l) ≡ elements_in size words
    (f + a) (l - a)
drop_elements size words f l zero h = (let e : f + 0 ≡ f = omega arith in let g : l - 0 ≡ l = omega arith in sym (ap (λ i. elements_in size words i (l - 0)) e ∙ ap (elements_in size words f) g))
drop_elements size words f zero (suc a) h = absurd (omega arith)
drop_elements size words f (suc l) (suc a) h =
    drop_elements size words (suc f) l a (omega arith)
    ∙ (let e : suc f + a ≡ f + suc a = omega arith in ap (λ i. elements_in size words i (l - a)) e)
    ∙ (let g : l - a ≡ suc l - suc a = omega arith in ap (elements_in size words (f + suc a)) g)

pub take_elements : (size : ℕ) (words : List Cell) (f l k : ℕ) → k ≤ l → take k (elements_in size words f l) ≡ elements_in size words f k
take_elements size words f l zero h = refl
take_elements size words f zero (suc k) h = absurd (omega arith)
take_elements size words f (suc l) (suc k) h = ap (λ xs. element size words f ∷ xs) (take_elements size words (suc f) l k (omega arith))

pub range_elements : (size : ℕ) (words : List Cell) (f l a b : ℕ) → a ≤ b → b ≤ l → elements_in size words (f + a) (b - a) ≡ slice_range (elements_in size words f l) a b
range_elements size words f l a b h g =
    sym (ap (take (b - a)) (drop_elements size words f l a (omega arith)) ∙ take_elements size words (f + a) (l - a) (b - a) (omega arith))

zeroed_more : (size : ℕ) (marks : List Bool) (j n : ℕ) → zeroed_words size marks j (suc n) ≡ zeroed_words size marks j n ++ zeroed_word size marks (j + n) ∷ []
zeroed_more size marks j zero = (let e : j ≡ j + 0 = omega arith in ap (λ i. zeroed_word size marks i ∷ []) e)
zeroed_more size marks j (suc n) =
    ap (λ xs. zeroed_word size marks j ∷ xs) (zeroed_more size marks (suc j) n)
    ∙ (let e : suc j + n ≡ j + suc n = omega arith in ap (λ i. zeroed_word size marks j ∷ (zeroed_words size marks (suc j) n ++ zeroed_word size marks i ∷ [])) e)

pub zeroed_next : (size : ℕ) (marks : List Bool) (words : List Word) (j : ℕ) (w : Word) → map cell_of words ≡ zeroed_words size marks 0 j → cell_of w ≡ zeroed_word size marks j
    → map cell_of (words ++ w ∷ []) ≡ zeroed_words size marks 0 (j + 1)
zeroed_next size marks words j w e f =
    map-append cell_of words (w ∷ []) ∙ ap (λ (xs : List Cell). xs ++ cell_of w ∷ []) e
    ∙ (let z : zeroed_word size marks j ≡ zeroed_word size marks (0 + j) = (let y : j ≡ 0 + j = omega arith in ap (zeroed_word size marks) y) in ap (λ (x : Cell). zeroed_words size marks 0 j ++ x ∷ []) (f ∙ z))
    ∙ sym (zeroed_more size marks 0 j)
    ∙ (let y : suc j ≡ j + 1 = omega arith in ap (zeroed_words size marks 0) y)

blank_bare : (b : Bool) (n : ℕ) → cond {A = ℕ} (refers n (if b then refer None else plain 0)) 1 0 ≡ 0
blank_bare true n = refl
blank_bare false n = refl

words_bare : (size : ℕ) (marks : List Bool) (j k n : ℕ) → naming (zeroed_words size marks j k) n ≡ 0
words_bare size marks j zero n = refl
words_bare size marks j (suc k) n =
    let byte = 4 * j % size in
    naming_cons (zeroed_word size marks j) (zeroed_words size marks (suc j) k) n
    ∙ omega (arith, blank_bare (byte % 4 == 0 && is_marked marks (byte / 4)) n, words_bare size marks (suc j) k n)

pub zeroed_bare : (size : ℕ) (marks : List Bool) (length n : ℕ) → naming (cells (zeroed size marks length)) n ≡ 0
zeroed_bare size marks length n = go (any_marked marks)
  where
    go : (b : Bool) → naming (cells (if b then wide (zeroed_words size marks 0 (words_for size length)) else compact (replicate (words_for size length) 0))) n ≡ 0
    go true = words_bare size marks 0 (words_for size length) n
    go false = plain_names (replicate (words_for size length) 0) n
