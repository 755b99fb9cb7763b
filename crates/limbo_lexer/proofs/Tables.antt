-- Tables of spellings.
use Rattle.std.proofs.Common.{◌≡◌, ℕ, zero, suc, ◌+◌, ◌<◌, ◌≤◌, Bool, true, false, cond, List, [], ◌∷◌, length, get_or, drop, refl, sym, ap, ◌∙◌, arith, map, Some, None}
use Rattle.std.proofs.lemmas.Bool.{and_parts}
use Rattle.std.specs.Prelude.{nat_eq}
use Rattle.std.specs.Cmp.Lexicographic.{pointwise, same_text, nat_list_eq_equiv}
use Rattle.std.specs.List.{list_all}
use Rattle.limbo_lexer.specs.Words.{listed}

pub same_spelling : (s t : List ℕ) → pointwise nat_eq s t ≡ true → s ≡ t
same_spelling s t h = same_text s t (sym h)

pub itself : (s : List ℕ) → pointwise nat_eq s s ≡ true
itself s = nat_list_eq_equiv.refl s

pub other_spelling : (s t : List ℕ) → (s ≡ t → ⊥) → pointwise nat_eq s t ≡ false
other_spelling s t h = by_test (pointwise nat_eq s t) refl where
  by_test : (b : Bool) → pointwise nat_eq s t ≡ b → pointwise nat_eq s t ≡ false
  by_test true e = absurd (h (same_spelling s t e))
  by_test false e = e

-- What a table gives is in a row with this spelling, so what a test says of each row's spelling it says of this one.
pub row_passes : {T : Type 0} (p : List ℕ → Bool) (rows : List (List ℕ × T)) (s : List ℕ) (v : T) → list_all (λ row. p row.0) rows ≡ true → listed rows s ≡ Some v → p s ≡ true
row_passes p [] s v h e = absurd (cc)
row_passes {T} p (row ∷ rows) s v h e =
    by_test (pointwise nat_eq s row.0) refl
    (λ k. row_passes p rows s v (and_parts (p row.0) (list_all (λ r. p r.0) rows) h).1 (sym (ap (λ b. cond b (Some row.1) (listed rows s)) k) ∙ e))
  where
    by_test : (b : Bool) → pointwise nat_eq s row.0 ≡ b → (pointwise nat_eq s row.0 ≡ false → p s ≡ true) → p s ≡ true
    by_test true k more = ap p (same_spelling s row.0 k) ∙ (and_parts (p row.0) (list_all (λ r. p r.0) rows) h).0
    by_test false k more = more k

-- The rows of a table from one on.
listed_from : {X T : Type 0} (f : X → List ℕ × T) (xs : List X) (s : List ℕ) (i : ℕ) (x : X) → i < length xs → x ≡ get_or xs i x → listed (drop i (map f xs)) s ≡ cond (pointwise nat_eq s (f x).0) (Some (f x).1) (listed (drop (i + 1) (map f xs)) s)
listed_from f [] s i x n e = absurd (omega arith)
listed_from f (y ∷ xs) s zero x n e =
    let k : x ≡ y = e in
    ap (λ z. cond (pointwise nat_eq s (f z).0) (Some (f z).1) (listed (map f xs) s)) (sym k)
listed_from f (y ∷ xs) s (suc i) x n e =
    let h = listed_from f xs s i x (omega arith) e in
    let k : suc i + 1 ≡ suc (i + 1) = omega arith in
    rw k h

pub listed_hit : {X T : Type 0} (f : X → List ℕ × T) (xs : List X) (s : List ℕ) (i : ℕ) (x : X) → i < length xs → x ≡ get_or xs i x → s ≡ (f x).0 → listed (drop i (map f xs)) s ≡ Some (f x).1
listed_hit f xs s i x n e h =
    listed_from f xs s i x n e
    ∙ ap (λ b. cond b (Some (f x).1) (listed (drop (i + 1) (map f xs)) s)) (ap (λ t. pointwise nat_eq t (f x).0) h ∙ itself (f x).0)

pub listed_miss : {X T : Type 0} (f : X → List ℕ × T) (xs : List X) (s : List ℕ) (i : ℕ) (x : X) → i < length xs → x ≡ get_or xs i x → (s ≡ (f x).0 → ⊥) → listed (drop i (map f xs)) s ≡ listed (drop (i + 1) (map f xs)) s
listed_miss f xs s i x n e h =
    listed_from f xs s i x n e
    ∙ ap (λ b. cond b (Some (f x).1) (listed (drop (i + 1) (map f xs)) s)) (other_spelling s (f x).0 h)

pub listed_end : {X T : Type 0} (f : X → List ℕ × T) (xs : List X) (s : List ℕ) (i : ℕ) → length xs ≤ i → listed (drop i (map f xs)) s ≡ None
listed_end f [] s zero h = refl
listed_end f [] s (suc i) h = refl
listed_end f (x ∷ xs) s zero h = absurd (omega arith)
listed_end f (x ∷ xs) s (suc i) h = listed_end f xs s i (omega arith)
