-- Numbers of declarations that stand inside others.
use Rattle.std.proofs.Common.{◌≡◌, ◌<◌, ◌+◌, ◌==◌, ◌++◌, ◌∷◌, [], ◌⊎◌, inl, inr, ℕ, zero, suc, Bool, true, false, if◌then◌else◌, List, None, Some, Vec, Global, length, take, get_or, slice_get, refl, sym, ap, subst, ◌∙◌, append_assoc, add-zero, rules, tests, arith}
use Rattle.std.proofs.Math.ListN.{set}
use Rattle.std.proofs.lemmas.List.{append-nil}
use Rattle.limbo_entries.specs.Entries.{Entry}
use Rattle.limbo_order.specs.View.{rows}
use Rattle.limbo_headers.specs.limbo_type_names.Numbers.{is_inside}
use Rattle.limbo_source_adts.specs.Inside.{inside_from, numbers_inside, AreInside, with_number}
use Rattle.limbo_source_adts.specs.Empty.{none_each}

abbrev here : Bool → ℕ → List ℕ
here b k = if b then k ∷ [] else []

inside_push : (k : ℕ) (xs : List Entry) (e : Entry) (a : ℕ) → inside_from k (xs ++ (e ∷ [])) a ≡ inside_from k xs a ++ here (is_inside (Some a) e.within) (k + length xs)
inside_push k [] e a = append-nil (here (is_inside (Some a) e.within) k) ∙ ap (λ n. here (is_inside (Some a) e.within) n) (sym (add-zero k))
inside_push k (x ∷ xs) e a =
    let n : suc k + length xs ≡ k + suc (length xs) = omega arith in
    ap (λ ys. here (is_inside (Some a) x.within) k ++ ys) (inside_push (suc k) xs e a ∙ ap (λ z. inside_from (suc k) xs a ++ here (is_inside (Some a) e.within) z) n)
    ∙ sym (append_assoc (here (is_inside (Some a) x.within) k) (inside_from (suc k) xs a) (here (is_inside (Some a) e.within) (k + suc (length xs))))

pub itself : (a : ℕ) → (a == a) ≡ true
itself a = search (rules, tests)

other : (a b : ℕ) → (a ≡ b → ⊥) → (a == b) ≡ false
other a b never = go (a == b) refl
  where
    go : (r : Bool) → (a == b) ≡ r → (a == b) ≡ false
    go true h = absurd (never (search (rules, tests, h)))
    go false h = h

-- a row of which one is longer
with_cases : (rs : List (List ℕ)) (a n b : ℕ) (row : List ℕ) → slice_get (with_number rs a n) b ≡ Some row
    → ((b ≡ a) × ((r : List ℕ) × (slice_get rs a ≡ Some r) × (r ++ (n ∷ []) ≡ row))) ⊎ ((b ≡ a → ⊥) × (slice_get rs b ≡ Some row))
with_cases [] a n b row h = absurd cc
with_cases (r ∷ rs) zero n zero row h = let e : r ++ (n ∷ []) ≡ row = cc in inl (refl, (r, refl, e))
with_cases (r ∷ rs) zero n (suc b) row h = inr (λ e. absurd (omega arith), h)
with_cases (r ∷ rs) (suc a) n zero row h = inr (λ e. absurd (omega arith), h)
with_cases (r ∷ rs) (suc a) n (suc b) row h = elim (with_cases rs a n b row h) [
  | inl x ↦ inl (ap suc x.0, x.1)
  | inr x ↦ inr (λ e. x.0 (omega arith), x.1)
]

pub with_many : (rs : List (List ℕ)) (a n : ℕ) → length (with_number rs a n) ≡ length rs
with_many [] a n = refl
with_many (r ∷ rs) zero n = refl
with_many (r ∷ rs) (suc a) n = ap suc (with_many rs a n)

-- ---- one declaration more

module _ (xs : List Entry) (i : ℕ) (e : Entry) (rs : List (List ℕ)) (many : length xs ≡ i) where
  at_end : (a : ℕ) (b : Bool) → is_inside (Some a) e.within ≡ b → numbers_inside (xs ++ (e ∷ [])) a ≡ numbers_inside xs a ++ here b i
  at_end a b f = let z : 0 + length xs ≡ i = omega arith in inside_push 0 xs e a ∙ ap (λ t. numbers_inside xs a ++ here t (0 + length xs)) f ∙ ap (λ n. numbers_inside xs a ++ here b n) z

  pub one_inside : (o : ℕ) → e.within ≡ Some o → ((a : ℕ) (row : List ℕ) → slice_get rs a ≡ Some row → row ≡ numbers_inside xs a)
      → (a : ℕ) (row : List ℕ) → slice_get (with_number rs o i) a ≡ Some row → row ≡ numbers_inside (xs ++ (e ∷ [])) a
  one_inside o w each a row h = elim (with_cases rs o i a row h) [
    | inl x ↦
        sym x.1.2 ∙ ap (λ r. r ++ (i ∷ [])) (each o x.1.0 x.1.1) ∙ sym (at_end o true (ap (λ z. is_inside (Some o) z) w ∙ itself o))
        ∙ ap (λ z. numbers_inside (xs ++ (e ∷ [])) z) (sym x.0)
    | inr x ↦
        each a row x.1 ∙ sym (append-nil (numbers_inside xs a)) ∙ sym (at_end a false (ap (λ z. is_inside (Some a) z) w ∙ other a o x.0))
  ]

  pub none_inside : e.within ≡ None → ((a : ℕ) (row : List ℕ) → slice_get rs a ≡ Some row → row ≡ numbers_inside xs a)
      → (a : ℕ) (row : List ℕ) → slice_get rs a ≡ Some row → row ≡ numbers_inside (xs ++ (e ∷ [])) a
  none_inside w each a row h = each a row h ∙ sym (append-nil (numbers_inside xs a)) ∙ sym (at_end a false (ap (λ z. is_inside (Some a) z) w))

-- ---- the rows of the code

pub set_rows : (vs : List (Vec ℕ Global)) (a n : ℕ) (v : Vec ℕ Global) (d : Vec ℕ Global) → a < length vs → v.items ≡ (get_or vs a d).items ++ (n ∷ [])
    → rows (set vs a v) ≡ with_number (rows vs) a n
set_rows [] a n v d l e = absurd (omega arith)
set_rows (w ∷ vs) zero n v d l e = ap (λ r. r ∷ rows vs) e
set_rows (w ∷ vs) (suc a) n v d l e = ap (λ rs. w.items ∷ rs) (set_rows vs a n v d (omega arith) e)

pub rows_push : (vs : List (Vec ℕ Global)) (v : Vec ℕ Global) → rows (vs ++ (v ∷ [])) ≡ rows vs ++ (v.items ∷ [])
rows_push [] v = refl
rows_push (w ∷ vs) v = ap (λ xs. w.items ∷ xs) (rows_push vs v)

pub rows_many : (vs : List (Vec ℕ Global)) → length (rows vs) ≡ length vs
rows_many [] = refl
rows_many (w ∷ vs) = let e = rows_many vs in omega arith

-- an empty row has nothing
pub empty_each : (n a : ℕ) (row : List ℕ) → slice_get (none_each n) a ≡ Some row → row ≡ []
empty_each zero a row h = absurd cc
empty_each (suc n) zero row h = cc
empty_each (suc n) (suc a) row h = empty_each n a row h

pub none_push : (n : ℕ) → none_each n ++ ([] ∷ []) ≡ none_each (suc n)
none_push zero = refl
none_push (suc n) = ap (λ rs. [] ∷ rs) (none_push n)

pub take_many : {A : Type 0} → (xs : List A) (i : ℕ) → i < length xs → length (take i xs) ≡ i
take_many [] i l = absurd (omega arith)
take_many (x ∷ xs) zero l = refl
take_many (x ∷ xs) (suc i) l = ap suc (take_many xs i (omega arith))

-- what stands inside is in the table
behind : (b : Bool) (k n i : ℕ) (rest : List ℕ) → slice_get (here b k ++ rest) i ≡ Some n → (n ≡ k) ⊎ ((j : ℕ) × (slice_get rest j ≡ Some n))
behind true k n zero rest h = let e : n ≡ k = cc in inl e
behind true k n (suc i) rest h = inr (i, h)
behind false k n i rest h = inr (i, h)

inside_there : (k : ℕ) (xs : List Entry) (a i n : ℕ) → slice_get (inside_from k xs a) i ≡ Some n → n < k + length xs
inside_there k [] a i n h = absurd cc
inside_there k (x ∷ xs) a i n h = elim (behind (is_inside (Some a) x.within) k n i (inside_from (suc k) xs a) h) [
  | inl e ↦ omega arith
  | inr y ↦ let l = inside_there (suc k) xs a y.0 n y.1 in omega arith
]

row_at : (vs : List (Vec ℕ Global)) (a : ℕ) (v : Vec ℕ Global) → a < length vs → v ≡ get_or vs a v → slice_get (rows vs) a ≡ Some v.items
row_at [] a v l e = absurd (omega arith)
row_at (w ∷ vs) zero v l e = ap (λ z. Some z.items) (sym e)
row_at (w ∷ vs) (suc a) v l e = row_at vs a v (omega arith) e

module _ (es : List Entry) (all : List (Vec ℕ Global)) (are : AreInside es (rows all)) (a : ℕ) (v : Vec ℕ Global) (l : a < length all) (e : v ≡ get_or all a v) where
  -- a row of the code is what stands inside
  pub row_is : v.items ≡ numbers_inside es a
  row_is = are.each a v.items (row_at all a v l e)

  pub row_there : (i n : ℕ) → slice_get v.items i ≡ Some n → n < length es
  row_there i n h =
      let x = inside_there 0 es a i n (subst (λ (z : List ℕ). slice_get z i ≡ Some n) row_is h) in
      omega arith
