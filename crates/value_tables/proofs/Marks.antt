-- Marks of words, place by place.
use Rattle.std.proofs.Common.{◌≡◌, ◌≢◌, ℕ, zero, suc, ◌+◌, ◌*◌, ◌/◌, ◌%◌, ◌<◌, ◌≤◌, Bool, true, false, List, [], ◌∷◌, ◌++◌, length, take, drop, map}
use Rattle.std.proofs.Common.{get_or, set, refl, sym, subst, ap, ◌∙◌, arith, get_or-set_same, get_or-set_other, if◌then◌else◌}
use Rattle.std.specs.Prelude.{◌||◌, ◌==◌}
use Rattle.std.specs.List.{range_with_len, list_any}
use Rattle.std.proofs.lemmas.List.{ext_get_or, append-nil, length-set}
use Rattle.std.proofs.lemmas.List.FromFn.{get_or-map-range_with_len, length-map-range_with_len}
use Rattle.limbo_layout.specs.Layout.{is_in}
use Rattle.value_heaps.specs.Types.{map_bytes}
use Rattle.value_tables.proofs.Maps.{map_all}

or_false : (b : Bool) → b || false ≡ b
or_false true = refl
or_false false = refl

or_true : (b : Bool) → b || true ≡ true
or_true true = refl
or_true false = refl

-- One more place.
pub in_more : (n : ℕ) (os : List ℕ) (k : ℕ) → k < length os → is_in n (take (suc k) os) ≡ is_in n (take k os) || (get_or os k 0 == n)
in_more n [] k h = absurd (omega (arith, h))
in_more n (o ∷ os) zero h = or_false (o == n)
in_more n (o ∷ os) (suc k) h = go (in_more n os k (omega (arith, h))) (o == n)
  where
    go : is_in n (take (suc k) os) ≡ is_in n (take k os) || (get_or os k 0 == n) → (b : Bool)
        → b || is_in n (take (suc k) os) ≡ (b || is_in n (take k os)) || (get_or os k 0 == n)
    go e true = refl
    go e false = e

equal : (a b : ℕ) → a ≡ b → (a == b) ≡ true
equal a b e = grind arith

unequal : (a b : ℕ) → a ≢ b → (a == b) ≡ false
unequal a b n = grind arith

abbrev pub AreMarked : (marks : List Bool) (words : ℕ) (os : List ℕ) → Type 0
AreMarked marks words os = (w : ℕ) → w < words → get_or marks w false ≡ is_in (4 * w) os

module _ (marks : List Bool) (words : ℕ) (os : List ℕ) (k o : ℕ) (many : length marks ≡ words) (lt : k < length os)
    (e : o ≡ get_or os k 0) (so : AreMarked marks words (take k os)) where
  whether : (w : ℕ) (b : Bool) → (o == 4 * w) ≡ b → is_in (4 * w) (take (suc k) os) ≡ is_in (4 * w) (take k os) || b
  whether w b t = in_more (4 * w) os k lt ∙ ap (λ x. is_in (4 * w) (take k os) || (x == 4 * w)) (sym e)
      ∙ ap (λ c. is_in (4 * w) (take k os) || c) t

  others : (w : ℕ) → w < words → o ≢ 4 * w → get_or marks w false ≡ is_in (4 * w) (take (suc k) os)
  others w h n = so w h ∙ sym (whether w false (unequal o (4 * w) n) ∙ or_false _)

  pub marked : o % 4 ≡ 0 → o / 4 < words → AreMarked (set marks (o / 4) true) words (take (suc k) os)
  marked whole within w h = go (w == o / 4) refl
    where
      go : (b : Bool) → (w == o / 4) ≡ b → get_or (set marks (o / 4) true) w false ≡ is_in (4 * w) (take (suc k) os)
      go true t =
          let is : w ≡ o / 4 = grind arith in
          let at : o ≡ 4 * w = omega (arith, is, whole) in
          let room : o / 4 < length marks = omega (arith, many, within) in
          ap (λ j. get_or (set marks (o / 4) true) j false) is ∙ get_or-set_same marks (o / 4) true false room
          ∙ sym (whether w true (equal o (4 * w) at) ∙ or_true _)
      go false t =
          let isnt : w ≢ o / 4 = λ q. absurd (grind arith) in
          let not_at : o ≢ 4 * w = λ q. isnt (omega (arith, q)) in
          get_or-set_other marks (o / 4) w true false isnt ∙ others w h not_at

  pub unmarked : (o % 4 ≡ 0 → o / 4 < words → ⊥) → AreMarked marks words (take (suc k) os)
  unmarked isnt w h = others w h (λ q. isnt (omega (arith, q)) (omega (arith, q, h)))

  on : suc k ≡ k + 1
  on = omega arith

  pub next_marked : (new : List Bool) → new ≡ set marks (o / 4) true → o % 4 ≡ 0 → o / 4 < words →
      (length new ≡ words) × AreMarked new words (take (k + 1) os)
  next_marked new is whole within =
      subst (λ xs. (length xs ≡ words) × AreMarked xs words (take (k + 1) os)) (sym is) (
        length-set marks (o / 4) true ∙ many,
        subst (λ j. AreMarked (set marks (o / 4) true) words (take j os)) on (marked whole within),
      )

  pub next_same : (new : List Bool) → new ≡ marks → (o % 4 ≡ 0 → o / 4 < words → ⊥) →
      (length new ≡ words) × AreMarked new words (take (k + 1) os)
  next_same new is isnt =
      subst (λ xs. (length xs ≡ words) × AreMarked xs words (take (k + 1) os)) (sym is)
      (many, subst (λ j. AreMarked marks words (take j os)) on (unmarked isnt))

pub taken : {A : Type 0} (xs : List A) (k : ℕ) → length xs ≤ k → take k xs ≡ xs
taken [] zero h = refl
taken [] (suc k) h = refl
taken (x ∷ xs) zero h = absurd (omega (arith, h))
taken (x ∷ xs) (suc k) h = ap (λ ys. x ∷ ys) (taken xs k (omega (arith, h)))

pub all_marked : (marks : List Bool) (words : ℕ) (os : List ℕ) (k : ℕ) → length marks ≡ words → length os ≤ k → AreMarked marks words (take k os) →
    marks ≡ map (λ w. is_in (4 * w) os) (range_with_len 0 words)
all_marked marks words os k many end so = ext_get_or false marks _ (many ∙ sym (length-map-range_with_len _ 0 words))
    (λ w h. let lt : w < words = omega (arith, many, h) in
    so w lt ∙ ap (is_in (4 * w)) (taken os k end)
    ∙ sym (get_or-map-range_with_len (λ v. is_in (4 * v) os) 0 words w w false lt (omega arith)))

dropped : {A : Type 0} (xs : List A) (k : ℕ) → length xs ≤ k → drop k xs ≡ []
dropped [] zero h = refl
dropped [] (suc k) h = refl
dropped (x ∷ xs) zero h = absurd (omega (arith, h))
dropped (x ∷ xs) (suc k) h = dropped xs k (omega (arith, h))

-- Where something is marked, the map has its bytes.
pub all_made : (made : List ℕ) (marks : List Bool) (n : ℕ) → length marks ≤ n → made ++ map_all (drop n marks) ≡ map_all marks →
    list_any (λ b. b) marks ≡ true → made ≡ map_bytes marks
all_made made marks n end e any =
    sym (append-nil made) ∙ ap (λ xs. made ++ map_all xs) (sym (dropped marks n end)) ∙ e
    ∙ ap (λ c. if c then map_all marks else []) (sym any)
