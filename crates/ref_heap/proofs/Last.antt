-- What a drop of one reference leaves, by the count of its block.
use Rattle.std.proofs.Common.{◌≡◌, ℕ, ◌+◌, ◌-◌, ◌<◌, ◌≤◌, cond, [], ◌∷◌, inl, inr, Some, None, refl, ap, subst, arith}
use Rattle.std.proofs.lemmas.Bool.Decides.{eqb_tells}
use Rattle.ref_heap.specs.Words.{naming, refer}
use Rattle.ref_heap.specs.Store.{Store, Block, count, count_in, names, one, one_less, IsHeap, AreHeld, at, limit, inside, outside, with_block}
use Rattle.ref_heap.specs.Drops.{Drops}
use Rattle.ref_heap.proofs.Steps.{less, dropped, freed_one, names_part, none_of_count}
use Rattle.ref_heap.proofs.View.{dropping_of, naming_one}
use Rattle.ref_heap.proofs.Put.{at_with_block}

one_same : (k : ℕ) → one k k ≡ 1
one_same k = elim (eqb_tells k k) [ inl y ↦ ap (λ b. cond {A = ℕ} b 1 0) y.0 | inr y ↦ absurd (y.1 refl) ]

-- the references of one word
pub drops_one : (h h' : Store) (k : ℕ) → Drops h h' (naming (refer (Some k) ∷ [])) → Drops h h' (one k)
drops_one h h' k d = subst (λ (f : ℕ → ℕ). Drops h h' f) (λ i n. naming_one k n i) d

pub last_gone : (h h' : Store) (k : ℕ) (b : Block) → IsHeap h → at h k ≡ Some b → b.count ≡ 1 → AreHeld h (one k) → Drops h h' (one k) → at h' k ≡ None
last_gone h h' k b ok is last held d =
    let a : count (at h') k ≡ (outside h k - one k k) + names (limit h) (at h') k = d.settled.exact k in
    let e : names (limit h) (at h') k ≤ inside h k = names_part (limit h) (at h') (at h) k d.part in
    let f : count (at h) k ≡ b.count = ap count_in is in
    let g : one k k ≤ outside h k = held k in
    let i = one_same k in
    none_of_count (at h' k) (λ x y. d.settled.counted k x y) (omega arith)

pub other_stays : (h h' : Store) (k : ℕ) (b : Block) → IsHeap h → at h k ≡ Some b → 1 < b.count → AreHeld h (one k) → Drops h h' (one k) → (n : ℕ) → at h' n ≡ at (with_block h k (one_less b)) n
other_stays h h' k b ok is more held d n =
    let g = with_block h k (one_less b) in
    let out : ℕ → ℕ = λ n. outside h n - one k n in
    let q = ok.bounded k b is in
    freed_one (limit h) out (at h) (at h') (at g) d
    (dropped (limit h) out (at h) (at g) (λ _. 0)
    (less (limit h) out (at h) (at h) (at g) (one k) (λ _. 0) k b (dropping_of h (one k) ok held) is more (omega (arith, q)) (at_with_block h k (one_less b)) (λ n. omega arith))
    (λ n. refl)) n
