-- What is told of declarations, one after the other, and where it stands.
use Rattle.std.proofs.Common.{◌≡◌, ◌<◌, ◌≤◌, ◌+◌, ◌++◌, ◌∷◌, [], ℕ, zero, suc, List, Some, Bool, true, false, cond, length, slice_get, take, count_by, refl, sym, ap, subst, ◌∙◌, add-zero, arith}
use Rattle.std.specs.List.{sum_by}
use Rattle.std.proofs.lemmas.List.{take_all}
use Rattle.std.proofs.lemmas.List.Sums.{sum_by-cons}
use Rattle.limbo_entries.specs.Entries.{Entry, IsEntry}
use Rattle.limbo_meanings.specs.Listed.{Listed, none_left, one_told, none_told}
use Rattle.limbo_meanings.proofs.Places.{take_many}

module _ {A : Type 0} (test : Entry → Bool) (is : ℕ → Entry → A → Type 0) where
  pub listed_yes : (k : ℕ) (es : List Entry) (xs : List A) (e : Entry) (a : A) → Listed test is k es xs → test e ≡ true → is (k + length es) e a
      → Listed test is k (es ++ (e ∷ [])) (xs ++ (a ∷ []))
  listed_yes _ _ _ e a (none_left k) t h = one_told k e a [] [] t (subst (λ (z : ℕ). is z e a) (add-zero k) h) (none_left (suc k))
  listed_yes _ _ _ e a (one_told k e' a' es xs t' h' rest) t h =
      let n : k + suc (length es) ≡ suc k + length es = omega arith in
      one_told k e' a' (es ++ (e ∷ [])) (xs ++ (a ∷ [])) t' h' (listed_yes (suc k) es xs e a rest t (subst (λ (z : ℕ). is z e a) n h))
  listed_yes _ _ _ e a (none_told k e' es xs t' rest) t h =
      let n : k + suc (length es) ≡ suc k + length es = omega arith in
      none_told k e' (es ++ (e ∷ [])) (xs ++ (a ∷ [])) t' (listed_yes (suc k) es xs e a rest t (subst (λ (z : ℕ). is z e a) n h))

  pub listed_no : (k : ℕ) (es : List Entry) (xs : List A) (e : Entry) → Listed test is k es xs → test e ≡ false → Listed test is k (es ++ (e ∷ [])) xs
  listed_no _ _ _ e (none_left k) t = none_told k e [] [] t (none_left (suc k))
  listed_no _ _ _ e (one_told k e' a' es xs t' h' rest) t = one_told k e' a' (es ++ (e ∷ [])) xs t' h' (listed_no (suc k) es xs e rest t)
  listed_no _ _ _ e (none_told k e' es xs t' rest) t = none_told k e' (es ++ (e ∷ [])) xs t' (listed_no (suc k) es xs e rest t)

  -- one declaration more of a table
  at_end : (es : List Entry) (i : ℕ) (e : Entry) → IsEntry es i e → take (i + 1) es ≡ take i es ++ (e ∷ [])
  at_end [] i e h = absurd cc
  at_end (f ∷ es) zero e h = let p : f ≡ e = cc in ap (λ z. z ∷ []) p
  at_end (f ∷ es) (suc i) e h = let n : suc i + 1 ≡ suc (i + 1) = omega arith in ap (λ z. take z (f ∷ es)) n ∙ ap (λ z. f ∷ z) (at_end es i e h)

  before : (es : List Entry) (i : ℕ) (e : Entry) → IsEntry es i e → i ≤ length es
  before [] i e h = absurd cc
  before (f ∷ es) zero e h = omega arith
  before (f ∷ es) (suc i) e h = let l = before es i e h in omega arith

  pub table_yes : (es : List Entry) (i : ℕ) (xs : List A) (e : Entry) (a : A) → Listed test is 0 (take i es) xs → IsEntry es i e → test e ≡ true → is i e a
      → Listed test is 0 (take (i + 1) es) (xs ++ (a ∷ []))
  table_yes es i xs e a are at t h =
      let n : i ≡ 0 + length (take i es) = let m = take_many es i (before es i e at) in omega arith in
      subst (λ (z : List Entry). Listed test is 0 z (xs ++ (a ∷ []))) (sym (at_end es i e at))
      (listed_yes 0 (take i es) xs e a are t (subst (λ (z : ℕ). is z e a) n h))

  pub table_no : (es : List Entry) (i : ℕ) (xs : List A) (e : Entry) → Listed test is 0 (take i es) xs → IsEntry es i e → test e ≡ false
      → Listed test is 0 (take (i + 1) es) xs
  table_no es i xs e are at t =
      subst (λ (z : List Entry). Listed test is 0 z xs) (sym (at_end es i e at)) (listed_no 0 (take i es) xs e are t)

  pub table_all : (es : List Entry) (i : ℕ) (xs : List A) → length es ≤ i → Listed test is 0 (take i es) xs → Listed test is 0 es xs
  table_all es i xs l are = subst (λ (z : List Entry). Listed test is 0 z xs) (take_all i es l) are

  -- ---- where it stands

  one_if : Entry → ℕ
  one_if x = cond (test x) 1 0

  counts_yes : (x : Entry) (xs : List Entry) → test x ≡ true → count_by test (x ∷ xs) ≡ suc (count_by test xs)
  counts_yes x xs h =
      let e : cond (test x) 1 0 ≡ 1 = ap (λ (b : Bool). let r : ℕ = cond b 1 0 in r) h in
      let f : sum_by (λ y. cond (test y) 1 0) (x ∷ xs) ≡ cond (test x) 1 0 + sum_by (λ y. cond (test y) 1 0) xs = sum_by-cons (λ y. cond (test y) 1 0) x xs in
      f ∙ ap (λ n. n + sum_by (λ y. cond (test y) 1 0) xs) e ∙ one_more_is (sum_by (λ y. cond (test y) 1 0) xs)
    where
      one_more_is : (n : ℕ) → 1 + n ≡ suc n
      one_more_is n = omega arith

  counts_no : (x : Entry) (xs : List Entry) → test x ≡ false → count_by test (x ∷ xs) ≡ count_by test xs
  counts_no x xs h =
      let e : cond (test x) 1 0 ≡ 0 = ap (λ (b : Bool). let r : ℕ = cond b 1 0 in r) h in
      let f : sum_by (λ y. cond (test y) 1 0) (x ∷ xs) ≡ cond (test x) 1 0 + sum_by (λ y. cond (test y) 1 0) xs = sum_by-cons (λ y. cond (test y) 1 0) x xs in
      f ∙ ap (λ n. n + sum_by (λ y. cond (test y) 1 0) xs) e ∙ none_more_is (sum_by (λ y. cond (test y) 1 0) xs)
    where
      none_more_is : (n : ℕ) → 0 + n ≡ n
      none_more_is n = omega arith

  unlike : {B : Type 0} → (b : Bool) → b ≡ true → b ≡ false → B
  unlike b x y = let z : true ≡ false = sym x ∙ y in absurd cc

  from : (k : ℕ) (es : List Entry) (xs : List A) (i : ℕ) (e : Entry) → Listed test is k es xs → slice_get es i ≡ Some e → test e ≡ true
      → (a : A) × (slice_get xs (count_by test (take i es)) ≡ Some a) × is (k + i) e a
  from _ _ _ i e (none_left k) h t = absurd cc
  from _ _ _ zero e (one_told k x a es xs v w rest) h t =
      let p : x ≡ e = cc in (a, refl, subst (λ (z : ℕ). is z e a) (sym (add-zero k)) (subst (λ (z : Entry). is k z a) p w))
  from _ _ _ (suc i) e (one_told k x a es xs v w rest) h t =
      let y = from (suc k) es xs i e rest h t in
      let n : suc k + i ≡ k + suc i = omega arith in
      (y.0, ap (λ z. slice_get (a ∷ xs) z) (counts_yes x (take i es) v) ∙ y.1, subst (λ (z : ℕ). is z e y.0) n y.2)
  from _ _ _ zero e (none_told k x es xs v rest) h t =
      let p : x ≡ e = cc in unlike (test x) (subst (λ (z : Entry). test z ≡ true) (sym p) t) v
  from _ _ _ (suc i) e (none_told k x es xs v rest) h t =
      let y = from (suc k) es xs i e rest h t in
      let n : suc k + i ≡ k + suc i = omega arith in
      (y.0, ap (λ z. slice_get xs z) (counts_no x (take i es) v) ∙ y.1, subst (λ (z : ℕ). is z e y.0) n y.2)

  -- What is told of a declaration stands at the number of those before it.
  pub listed_at : (es : List Entry) (xs : List A) (k : ℕ) (e : Entry) → Listed test is 0 es xs → IsEntry es k e → test e ≡ true
      → (a : A) × (slice_get xs (count_by test (take k es)) ≡ Some a) × is k e a
  listed_at es xs k e are at t =
      let y = from 0 es xs k e are at t in
      let n : 0 + k ≡ k = omega arith in
      (y.0, y.1, subst (λ (z : ℕ). is z e y.0) n y.2)
