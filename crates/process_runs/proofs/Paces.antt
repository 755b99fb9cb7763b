-- How far ahead the middle code is, turn by turn, and what follows for the pace.
use Rattle.std.proofs.Common.{◌≡◌, ℕ, zero, suc, ◌+◌, ◌*◌, ◌<◌, ◌≤◌, Bool, true, false, List, [], ◌∷◌, ◌++◌, refl, sym, ap, ◌∙◌, subst, arith}
use Rattle.std.proofs.lemmas.Nat.{mul-add-lt}
use Rattle.std.proofs.lemmas.Bool.{eqb-true, eq-eqb}
use Rattle.std.specs.Prelude.{nat_eq, if◌then◌else◌}
use Rattle.process_model.specs.Source.{Turn}
use Rattle.process_model.specs.Law.{idled, idle, Paced, makers}
use Rattle.process_runs.specs.Pace.{outrun, ahead, KeepsUp, PacesMultiply}

-- the product
within_product : (u f a b : ℕ) → u < a → f < b → u * b + f < a * b
within_product u f a b h g = let c : u * b + f < b * a = mul-add-lt u b f a h g in omega arith

paced_one : (b z a i m n : ℕ) → z ≤ a * b + i → i < b → idled m z ≤ outrun m n a * b + idled n i
paced_one b z a i zero zero h l = let e : (a + 0) * b ≡ a * b = ap (λ a. a * b) (omega arith) in omega arith
paced_one b z a i zero (suc n) h l =
    let c : a * b + i < b * (a + suc n) = mul-add-lt a b i (a + suc n) (omega arith) l in
    let e : b * (a + suc n) ≡ (a + suc n) * b = omega arith in
    omega arith
paced_one b z a i (suc m) n h l = omega arith

paced_turn : (b z a i m n : ℕ) (here : Bool) → z ≤ a * b + i → i < b →
    (if here then idled m z else z) ≤ (if here then outrun m n a else a) * b + (if here then idled n i else i)
paced_turn b z a i m n true h l = paced_one b z a i m n h l
paced_turn b z a i m n false h l = h

paced_at : (b : ℕ) (z a i : ℕ → ℕ) (u t : Turn) (j : ℕ) → u.pid ≡ t.pid → z j ≤ a j * b + i j → i j < b →
    idle z u j ≤ ahead a u t j * b + idle i t j
paced_at b z a i u t j same h l =
    subst (λ (k : ℕ). idle z u j ≤ ahead a u t j * b + (if nat_eq k j then idled t.steps (i j) else i j)) same
    (paced_turn b (z j) (a j) (i j) u.steps t.steps (nat_eq u.pid j) h l)

paces : (bound slow : ℕ) (z a i : ℕ → ℕ) (us ts : List Turn) → ((j : ℕ) → z j ≤ a j * slow + i j) → ((j : ℕ) → i j < slow) →
    KeepsUp bound a us ts → Paced slow i ts → Paced (bound * slow) z us
paces bound slow z a i [] [] h l k p = tt
paces bound slow z a i (u ∷ us) (t ∷ ts) h l k p =
    let next : (j : ℕ) → idle z u j ≤ ahead a u t j * slow + idle i t j = λ j. paced_at slow z a i u t j k.0 (h j) (l j) in (
      λ j. let x = next j in let y = within_product (ahead a u t j) (idle i t j) bound slow (k.1 j) (p.0 j) in omega arith,
      paces bound slow (idle z u) (ahead a u t) (idle i t) us ts next p.0 k.2 p.1,
    )
paces bound slow z a i [] (t ∷ ts) h l k p = absurd k
paces bound slow z a i (u ∷ us) [] h l k p = absurd k

pub paces_multiply : PacesMultiply
paces_multiply bound slow us [] k p = paces_none us k
  where
    paces_none : (us : List Turn) → KeepsUp bound (λ j. 0) us [] → Paced (bound * slow) (λ j. 0) us
    paces_none [] k = tt
    paces_none (u ∷ us) k = absurd k
paces_multiply bound slow us (t ∷ ts) k p =
    let some : 0 < slow = let x = p.0 0 in omega arith in
    paces bound slow (λ j. 0) (λ j. 0) (λ j. 0) us (t ∷ ts) (λ j. omega arith) (λ j. some) k p

-- the count after all turns
abbrev pub ahead_all : (ℕ → ℕ) → (us ts : List Turn) → ℕ → ℕ
ahead_all z (u ∷ us) (t ∷ ts) = ahead_all (ahead z u t) us ts
ahead_all z _ _ = z

pub ahead_more : (bound : ℕ) (z : ℕ → ℕ) (us ts : List Turn) (u t : Turn) → KeepsUp bound z us ts →
    ahead_all z (us ++ u ∷ []) (ts ++ t ∷ []) ≡ ahead (ahead_all z us ts) u t
ahead_more bound z [] [] u t k = refl
ahead_more bound z (v ∷ us) (s ∷ ts) u t k = ahead_more bound (ahead z v s) us ts u t k.2
ahead_more bound z [] (s ∷ ts) u t k = absurd k
ahead_more bound z (v ∷ us) [] u t k = absurd k

pub keeps_more : (bound : ℕ) (z : ℕ → ℕ) (us ts : List Turn) (u t : Turn) → KeepsUp bound z us ts → u.pid ≡ t.pid →
    ((j : ℕ) → ahead (ahead_all z us ts) u t j < bound) → KeepsUp bound z (us ++ u ∷ []) (ts ++ t ∷ [])
keeps_more bound z [] [] u t k same h = (same, h, tt)
keeps_more bound z (v ∷ us) (s ∷ ts) u t k same h = (k.0, k.1, keeps_more bound (ahead z v s) us ts u t k.2 same h)
keeps_more bound z [] (s ∷ ts) u t k same h = absurd k
keeps_more bound z (v ∷ us) [] u t k same h = absurd k

pub keeps_makers : (bound : ℕ) (z : ℕ → ℕ) (us ts : List Turn) → KeepsUp bound z us ts → makers us ≡ makers ts
keeps_makers bound z [] [] k = refl
keeps_makers bound z (u ∷ us) (t ∷ ts) k = ap (λ i. i ∷ makers us) k.0 ∙ ap (λ l. t.pid ∷ l) (keeps_makers bound (ahead z u t) us ts k.2)
keeps_makers bound z [] (t ∷ ts) k = absurd k
keeps_makers bound z (u ∷ us) [] k = absurd k

-- one turn more, of process i
pub ahead_moves : (z : ℕ → ℕ) (i m n j x y : ℕ) → (m ≡ 0 → j ≡ i → x + n ≤ y) → ((j ≡ i → ⊥) → x ≤ y) → z j ≤ x →
    ahead z (record { pid = i; steps = m }) (record { pid = i; steps = n }) j ≤ y
ahead_moves z i m n j x y moved others h = go (nat_eq i j) refl
  where
    at : (m : ℕ) → (m ≡ 0 → j ≡ i → x + n ≤ y) → j ≡ i → outrun m n (z j) ≤ y
    at zero moved same = let l = moved refl same in omega arith
    at (suc m) moved same = omega arith

    go : (b : Bool) → nat_eq i j ≡ b → (if b then outrun m n (z j) else z j) ≤ y
    go true e = at m moved (sym (eqb-true i j e))
    go false e = let ne : j ≡ i → ⊥ = λ q. let f : nat_eq i j ≡ true = eq-eqb i j (sym q) in absurd cc in let l = others ne in omega arith
