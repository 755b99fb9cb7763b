-- What the numbers in types count.
use Rattle.std.proofs.Common.{◌≡◌, ◌+◌, ◌∷◌, ◌||◌, [], ℕ, suc, List, Some, Bool, true, false, cond, take, count_by, refl, sym, ap, ◌∙◌, arith}
use Rattle.std.specs.List.{sum_by}
use Rattle.std.proofs.lemmas.List.Sums.{sum_by-cons}
use Rattle.limbo_declarations.specs.Rows as rows
use Rattle.limbo_declarations.specs.Rows.{Declared}
use Rattle.limbo_entries.specs.Entries.{Entry}
use Rattle.limbo_naming.specs.Naming.{is_adt, is_module, is_variant}
use Rattle.limbo_headers.specs.limbo_type_names.Numbers.{are_alike, number_of}
use Rattle.limbo_headers.specs.limbo_type_names.Counts.{is_adt_entry, is_module_entry, is_variant_in}

-- 1 where a test holds
abbrev one_if : (Entry → Bool) → Entry → ℕ
one_if p x = cond (p x) 1 0

-- by tests that are alike
count_same : (p q : Entry → Bool) → ((x : Entry) → p x ≡ q x) → (xs : List Entry) → count_by p xs ≡ count_by q xs
count_same p q f [] = refl
count_same p q f (x ∷ xs) =
    let h : sum_by (one_if p) xs ≡ sum_by (one_if q) xs = count_same p q f xs in
    let e : one_if p x ≡ one_if q x = ap (λ (b : Bool). let r : ℕ = cond b 1 0 in r) (f x) in
    sum_by-cons (one_if p) x xs ∙ ap (λ k. k + sum_by (one_if p) xs) e ∙ ap (λ k. one_if q x + k) h ∙ sym (sum_by-cons (one_if q) x xs)

or_false : (b : Bool) → (b || false) ≡ b
or_false true = refl
or_false false = refl

-- ---- which are counted, by what a declaration is

adts_alike : (e f : Entry) → is_adt e.row.means ≡ true → are_alike e f ≡ is_adt_entry f
adts_alike e f h = go e.row.means refl h
  where
    go : (d : Declared) → e.row.means ≡ d → is_adt d ≡ true → are_alike e f ≡ is_adt_entry f
    go (rows.Adt ms pick) i j = rw i (ap (λ b. b || false) (or_false (is_adt f.row.means)) ∙ or_false (is_adt f.row.means))
    go _ i j = absurd cc

modules_alike : (e f : Entry) → is_module e.row.means ≡ true → are_alike e f ≡ is_module_entry f
modules_alike e f h = go e.row.means refl h
  where
    go : (d : Declared) → e.row.means ≡ d → is_module d ≡ true → are_alike e f ≡ is_module_entry f
    go (rows.Module ms) i j = rw i (or_false (is_module f.row.means))
    go _ i j = absurd cc

variants_alike : (e f : Entry) (a : ℕ) → is_variant e.row.means ≡ true → e.within ≡ Some a → are_alike e f ≡ is_variant_in a f
variants_alike e f a h w = go e.row.means refl h
  where
    go : (d : Declared) → e.row.means ≡ d → is_variant d ≡ true → are_alike e f ≡ is_variant_in a f
    go (rows.Case fs) i j = rw (i, w) refl
    go _ i j = absurd cc

-- ---- the numbers

pub adt_counts : (es : List Entry) (k : ℕ) (e : Entry) → is_adt e.row.means ≡ true → number_of es k e ≡ count_by is_adt_entry (take k es)
adt_counts es k e h = count_same (are_alike e) is_adt_entry (λ f. adts_alike e f h) (take k es)

pub module_counts : (es : List Entry) (k : ℕ) (e : Entry) → is_module e.row.means ≡ true → number_of es k e ≡ count_by is_module_entry (take k es)
module_counts es k e h = count_same (are_alike e) is_module_entry (λ f. modules_alike e f h) (take k es)

pub variant_counts : (es : List Entry) (k : ℕ) (e : Entry) (a : ℕ) → is_variant e.row.means ≡ true → e.within ≡ Some a → number_of es k e ≡ count_by (is_variant_in a) (take k es)
variant_counts es k e a h w = count_same (are_alike e) (is_variant_in a) (λ f. variants_alike e f a h w) (take k es)

-- ---- a count goes on

pub count_yes : (p : Entry → Bool) (x : Entry) (xs : List Entry) → p x ≡ true → count_by p (x ∷ xs) ≡ suc (count_by p xs)
count_yes p x xs h =
    let e : one_if p x ≡ 1 = ap (λ (b : Bool). let r : ℕ = cond b 1 0 in r) h in
    let f : sum_by (one_if p) (x ∷ xs) ≡ one_if p x + sum_by (one_if p) xs = sum_by-cons (one_if p) x xs in
    f ∙ ap (λ n. n + sum_by (one_if p) xs) e ∙ one_more_is (sum_by (one_if p) xs)
  where
    one_more_is : (n : ℕ) → 1 + n ≡ suc n
    one_more_is n = omega arith

pub count_no : (p : Entry → Bool) (x : Entry) (xs : List Entry) → p x ≡ false → count_by p (x ∷ xs) ≡ count_by p xs
count_no p x xs h =
    let e : one_if p x ≡ 0 = ap (λ (b : Bool). let r : ℕ = cond b 1 0 in r) h in
    let f : sum_by (one_if p) (x ∷ xs) ≡ one_if p x + sum_by (one_if p) xs = sum_by-cons (one_if p) x xs in
    f ∙ ap (λ n. n + sum_by (one_if p) xs) e ∙ none_more_is (sum_by (one_if p) xs)
  where
    none_more_is : (n : ℕ) → 0 + n ≡ n
    none_more_is n = omega arith
