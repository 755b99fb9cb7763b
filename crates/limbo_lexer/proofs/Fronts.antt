-- Lists of characters and what stands at their front.
use Rattle.std.proofs.Common.{◌≡◌, ℕ, zero, suc, ◌+◌, ◌-◌, ◌<◌, ◌≤◌, Bool, true, false, cond, List, [], ◌∷◌, ◌++◌, length, get_or, take, drop, refl, sym, ap, ◌∙◌, arith}
use Rattle.std.proofs.Math.Numerals.{one-add}
use Rattle.std.proofs.lemmas.Bool.{and_parts, and_from}
use Rattle.std.proofs.lemmas.List.{length-drop, take_all}
use Rattle.std.specs.List.{list_all, prefix_len}
use Rattle.std.proofs.lemmas.List.Sums.{prefix_len_is}

pub head_same : {A : Type 0} (d : A) (x y : A) (xs ys : List A) → x ∷ xs ≡ y ∷ ys → x ≡ y
head_same d x y xs ys e = cc

pub tail_same : {A : Type 0} (x y : A) (xs ys : List A) → x ∷ xs ≡ y ∷ ys → xs ≡ ys
tail_same x y xs ys e = cc

-- Two fronts of one list that have one length are one front, and leave one rest.
pub same_fronts : {A : Type 0} (s t r u : List A) → s ++ r ≡ t ++ u → length s ≡ length t → (s ≡ t) × (r ≡ u)
same_fronts [] [] r u e h = (refl, e)
same_fronts [] (y ∷ t) r u e h = absurd (omega arith)
same_fronts (x ∷ s) [] r u e h = absurd (omega arith)
same_fronts (x ∷ s) (y ∷ t) r u e h =
    let k : length s ≡ length t = omega arith in
    let tails = same_fronts s t r u (tail_same x y (s ++ r) (t ++ u) e) k in
    let heads : x ≡ y = head_same x x y (s ++ r) (t ++ u) e in
    let all : s ≡ t = tails.0 in
    (cc, tails.1)

by_test : (p : ℕ → Bool) (c : ℕ) (s : List ℕ) → list_all p (take (prefix_len p s) s) ≡ true → (b : Bool) → p c ≡ b → list_all p (take (cond b (1 + prefix_len p s) 0) (c ∷ s)) ≡ true
by_test p c s h true e = rw one-add (and_from (p c) _ e h)
by_test p c s h false e = refl

-- The longest front that passes a test passes it, and no front that passes is longer.
pub front_passes : (p : ℕ → Bool) (s : List ℕ) → list_all p (take (prefix_len p s) s) ≡ true
front_passes p [] = refl
front_passes p (c ∷ s) = by_test p c s (front_passes p s) (p c) refl

pub front_longest : (p : ℕ → Bool) (s t r : List ℕ) → list_all p t ≡ true → t ++ r ≡ s → length t ≤ prefix_len p s
front_longest p s [] r h e = omega arith
front_longest p [] (c ∷ t) r h e = absurd (cc)
front_longest p (d ∷ s) (c ∷ t) r h e =
    let parts = and_parts (p c) (list_all p t) h in
    let heads : c ≡ d = head_same c c d (t ++ r) s e in
    let pass : p d ≡ true = ap p (sym heads) ∙ parts.0 in
    let more = front_longest p s t r parts.1 (tail_same c d (t ++ r) s e) in
    rw pass (omega arith)

pub front_cons : (p : ℕ → Bool) (c : ℕ) (s : List ℕ) → p c ≡ true → take (prefix_len p (c ∷ s)) (c ∷ s) ≡ c ∷ take (prefix_len p s) s
front_cons p c s h = rw (h, one-add)

-- Where a loop stops, that has passed only characters that pass.
pub stops_at : (p : ℕ → Bool) (s : List ℕ) (n : ℕ) → n ≤ length s → ((k : ℕ) → k < n → p (get_or s k 0) ≡ true) → (n < length s → p (get_or s n 0) ≡ false) → n ≡ prefix_len p s
stops_at p s n bound passed stop = sym (prefix_len_is p s n 0 bound passed stop)

-- What a slice from n on is.
pub behind : (n : ℕ) (s : List ℕ) → take (length s - n) (drop n s) ≡ drop n s
behind n s = take_all (length s - n) (drop n s) (omega (arith, length-drop n s))

pub begins_with : (s : List ℕ) (c : ℕ) → 0 < length s → get_or s 0 0 ≡ c → s ≡ c ∷ drop 1 s
begins_with [] c n e = absurd (omega arith)
begins_with (x ∷ s) c n e = ap (λ y. y ∷ s) e

pub not_begins : (s : List ℕ) (c : ℕ) → (0 < length s → get_or s 0 0 ≡ c → ⊥) → (t : List ℕ) → s ≡ c ∷ t → ⊥
not_begins [] c h t e = absurd (cc)
not_begins (x ∷ s) c h t e = h (omega arith) (head_same x x c s t e)

-- An element, by a default of ours.
pub item_is : (s : List ℕ) (i x : ℕ) → i < length s → x ≡ get_or s i x → get_or s i 0 ≡ x
item_is [] i x h e = absurd (omega arith)
item_is (y ∷ s) zero x h e = sym e
item_is (y ∷ s) (suc i) x h e = item_is s i x (omega arith) e

-- A list begins with its first element, however it was read.
pub starts_with : (s : List ℕ) (x : ℕ) → 0 < length s → x ≡ get_or s 0 x → s ≡ x ∷ drop 1 s
starts_with [] x n e = absurd (omega arith)
starts_with (y ∷ s) x n e = ap (λ z. z ∷ s) (sym e)
