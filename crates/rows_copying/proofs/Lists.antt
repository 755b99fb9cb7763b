-- Elements of a list in place of as many others.
use Rattle.std.proofs.Common.{◌≡◌, ℕ, zero, suc, ◌+◌, ◌-◌, ◌*◌, ◌<◌, ◌≤◌, ◌⊎◌, List, [], ◌∷◌, ◌++◌, length, take, drop, Some, refl, ap, ◌∙◌, subst, arith, inl, inr, length-append}
use Rattle.std.specs.Prelude.{slice_get, slice_range}
use Rattle.std.proofs.Math.Nat.{suc-mul}
use Rattle.limbo_meaning.specs.Operations.{overwritten}
use Rattle.limbo_meaning.specs.Values.{Value}

-- ---- numbers

pub times_more : (a b n : ℕ) → (a + b) * n ≡ a * n + b * n
times_more a zero n = let e : a + 0 ≡ a = omega arith in ap (λ m. m * n) e ∙ (let f : a * n ≡ a * n + 0 * n = omega arith in f)
times_more a (suc b) n =
    let e : a + suc b ≡ suc (a + b) = omega arith in
    let f = suc-mul (a + b) n in
    let g = suc-mul b n in
    let h = times_more a b n in
    ap (λ m. m * n) e ∙ (let i : suc (a + b) * n ≡ a * n + suc b * n = omega (arith, f, g, h) in i)

pub times_four : (a q : ℕ) → 4 * (a * q) ≡ a * (4 * q)
times_four zero q = omega arith
times_four (suc a) q =
    let f = suc-mul a q in
    let g = suc-mul a (4 * q) in
    let h = times_four a q in
    omega (arith, f, g, h)

pub times_least : (a b n : ℕ) → a ≤ b → a * n ≤ b * n
times_least a b n l =
    let e : a + (b - a) ≡ b = omega (arith, l) in
    let f = times_more a (b - a) n in
    let g : a * n ≤ (a + (b - a)) * n = omega (arith, f) in
    subst (λ m. a * n ≤ m * n) e g

-- ---- lists

module _ {A : Type 0} where
  front_or_behind : (xs ys : List A) (j : ℕ) (v : A) → slice_get (xs ++ ys) j ≡ Some v
      → ((j < length xs) × (slice_get xs j ≡ Some v)) ⊎ ((n : ℕ) × (j ≡ length xs + n) × (slice_get ys n ≡ Some v))
  front_or_behind [] ys j v e = inr (j, omega arith, e)
  front_or_behind (x ∷ xs) ys zero v e = inl (omega arith, e)
  front_or_behind (x ∷ xs) ys (suc j) v e = elim (front_or_behind xs ys j v e) [
    | inl y ↦ let l = y.0 in inl (omega (arith, l), y.1)
    | inr y ↦ let f = y.1 in inr (y.0, omega (arith, f), y.2)
  ]

  get_take : (xs : List A) (i j : ℕ) (v : A) → slice_get (take i xs) j ≡ Some v → slice_get xs j ≡ Some v
  get_take xs zero j v e = absurd cc
  get_take [] (suc i) j v e = absurd cc
  get_take (x ∷ xs) (suc i) zero v e = e
  get_take (x ∷ xs) (suc i) (suc j) v e = get_take xs i j v e

  get_drop : (xs : List A) (i j : ℕ) (v : A) → slice_get (drop i xs) j ≡ Some v → slice_get xs (i + j) ≡ Some v
  get_drop xs zero j v e = let f : 0 + j ≡ j = omega arith in ap (slice_get xs) f ∙ e
  get_drop [] (suc i) j v e = absurd cc
  get_drop (x ∷ xs) (suc i) j v e = let f : suc i + j ≡ suc (i + j) = omega arith in ap (slice_get (x ∷ xs)) f ∙ get_drop xs i j v e

  take_long : (xs : List A) (i : ℕ) → i ≤ length xs → length (take i xs) ≡ i
  take_long xs zero l = refl
  take_long [] (suc i) l = absurd (omega (arith, l))
  take_long (x ∷ xs) (suc i) l = ap suc (take_long xs i (omega (arith, l)))

  drop_long : (xs : List A) (i : ℕ) → i ≤ length xs → i + length (drop i xs) ≡ length xs
  drop_long xs zero l = omega arith
  drop_long [] (suc i) l = absurd (omega (arith, l))
  drop_long (x ∷ xs) (suc i) l = let h = drop_long xs i (omega (arith, l)) in omega (arith, h)

  -- part of a list
  pub range_long : (xs : List A) (from to : ℕ) → from ≤ to → to ≤ length xs → length (slice_range xs from to) ≡ to - from
  range_long xs from to l h =
      let d = drop_long xs from (omega (arith, l, h)) in take_long (drop from xs) (to - from) (omega (arith, l, h, d))

  pub range_at : (xs : List A) (from to j : ℕ) (v : A) → slice_get (slice_range xs from to) j ≡ Some v → slice_get xs (from + j) ≡ Some v
  range_at xs from to j v e = get_drop xs from j v (get_take (drop from xs) (to - from) j v e)

  put_back : (xs : List A) (i : ℕ) → take i xs ++ drop i xs ≡ xs
  put_back xs zero = refl
  put_back [] (suc i) = refl
  put_back (x ∷ xs) (suc i) = ap (λ ys. x ∷ ys) (put_back xs i)

-- ---- elements over others

pub over_long : (xs ys : List Value) (i : ℕ) → i + length ys ≤ length xs → length (overwritten xs i ys) ≡ length xs
over_long xs ys i l =
    let a = take_long xs i (omega (arith, l)) in
    let b = drop_long xs (i + length ys) l in
    let c = length-append (take i xs) (ys ++ drop (i + length ys) xs) in
    let d = length-append ys (drop (i + length ys) xs) in
    omega (arith, a, b, c, d)

pub over_at : (xs ys : List Value) (i j : ℕ) (v : Value) → i + length ys ≤ length xs → slice_get (overwritten xs i ys) j ≡ Some v
    → ((n : ℕ) × (n < length ys) × (j ≡ i + n) × (slice_get ys n ≡ Some v)) ⊎ (((j < i) ⊎ (i + length ys ≤ j)) × (slice_get xs j ≡ Some v))
over_at xs ys i j v l e = elim (front_or_behind (take i xs) (ys ++ drop (i + length ys) xs) j v e) [
  | inl y ↦ let low = y.0 in inr (inl (omega (arith, low, long)), get_take xs i j v y.1)
  | inr y ↦ behind y.0 y.1 (front_or_behind ys (drop (i + length ys) xs) y.0 v y.2)
]
  where
    long : length (take i xs) ≡ i
    long = take_long xs i (omega (arith, l))

    behind : (n : ℕ) → j ≡ length (take i xs) + n
        → ((n < length ys) × (slice_get ys n ≡ Some v)) ⊎ ((o : ℕ) × (n ≡ length ys + o) × (slice_get (drop (i + length ys) xs) o ≡ Some v))
        → ((n : ℕ) × (n < length ys) × (j ≡ i + n) × (slice_get ys n ≡ Some v)) ⊎ (((j < i) ⊎ (i + length ys ≤ j)) × (slice_get xs j ≡ Some v))
    behind n f (inl z) = inl (n, z.0, omega (arith, f, long), z.1)
    behind n f (inr z) =
        let g = z.1 in
        let same : j ≡ i + length ys + z.0 = omega (arith, f, g, long) in
        inr (inr (omega (arith, same)), ap (slice_get xs) same ∙ get_drop xs (i + length ys) z.0 v z.2)

-- nothing over nothing
pub over_none : (xs : List Value) (i : ℕ) → overwritten xs i [] ≡ xs
over_none xs i = let f : i + 0 ≡ i = omega arith in ap (λ n. take i xs ++ drop n xs) f ∙ put_back xs i
