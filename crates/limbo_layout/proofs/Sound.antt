-- Rooms of the code stay sound.
use Rattle.std.proofs.Common.{◌≡◌, ℕ, zero, suc, ◌+◌, ◌<◌, ◌≤◌, ◌⊎◌, inl, inr, List, [], ◌∷◌, ◌++◌, map, max, length, get_or, take, refl, sym, ap, subst, ◌∙◌, append_assoc, arith}
use Rattle.std.proofs.lemmas.List.{take_more, map-append}
use Rattle.std.specs.Int.{next_multiple_of}
use Rattle.limbo_layout.specs.Laying.{AllBelow}

pub max_align : (a b : ℕ) → (a ≡ 1) ⊎ ((a ≡ 4) ⊎ (a ≡ 8)) → (b ≡ 1) ⊎ ((b ≡ 4) ⊎ (b ≡ 8)) → (max a b ≡ 1) ⊎ ((max a b ≡ 4) ⊎ (max a b ≡ 8))
max_align a b (inl e) (inl f) = inl (omega arith)
max_align a b (inl e) (inr (inl f)) = inr (inl (omega arith))
max_align a b (inl e) (inr (inr f)) = inr (inr (omega arith))
max_align a b (inr (inl e)) (inl f) = inr (inl (omega arith))
max_align a b (inr (inl e)) (inr (inl f)) = inr (inl (omega arith))
max_align a b (inr (inl e)) (inr (inr f)) = inr (inr (omega arith))
max_align a b (inr (inr e)) (inl f) = inr (inr (omega arith))
max_align a b (inr (inr e)) (inr (inl f)) = inr (inr (omega arith))
max_align a b (inr (inr e)) (inr (inr f)) = inr (inr (omega arith))

pub below_more : (n m : ℕ) (ns : List ℕ) → n ≤ m → AllBelow n ns → AllBelow m ns
below_more n m [] l h = tt
below_more n m (k ∷ ns) l h = (let a = h.0 in omega arith, below_more n m ns l h.1)

pub below_push : (n k : ℕ) (ns : List ℕ) → k < n → AllBelow n ns → AllBelow n (ns ++ (k ∷ []))
below_push n k [] l h = (l, tt)
below_push n k (m ∷ ns) l h = (h.0, below_push n k ns l h.1)

pub below_at : (n : ℕ) (ns : List ℕ) (i d : ℕ) → AllBelow n ns → i < length ns → get_or ns i d < n
below_at n [] i d h l = absurd (omega arith)
below_at n (m ∷ ns) zero d h l = h.0
below_at n (m ∷ ns) (suc i) d h l = below_at n ns i d h.1 (omega arith)

-- the limit is a multiple of each alignment
pub rounds_within : (n a : ℕ) → n ≤ 65536 → (a ≡ 1) ⊎ ((a ≡ 4) ⊎ (a ≡ 8)) → next_multiple_of n a ≤ 65536
rounds_within n a l (inl e) = rw e (omega arith)
rounds_within n a l (inr (inl e)) = rw e (omega arith)
rounds_within n a l (inr (inr e)) = rw e (omega arith)

pub shift-none : (ns : List ℕ) → map (λ o. 0 + o) ns ≡ ns
shift-none [] = refl
shift-none (n ∷ ns) = let e : 0 + n ≡ n = omega arith in ap (λ m. m ∷ map (λ o. 0 + o) ns) e ∙ ap (λ ms. n ∷ ms) (shift-none ns)

-- one reference more, at its place in the whole
pub shift_more : (base rs os : List ℕ) (at i : ℕ) → i < length os → rs ≡ base ++ map (λ o. at + o) (take i os) → rs ++ ((at + get_or os i 0) ∷ []) ≡ base ++ map (λ o. at + o) (take (i + 1) os)
shift_more base rs os at i l e =
    ap (λ xs. xs ++ ((at + get_or os i 0) ∷ [])) e
    ∙ append_assoc base (map (λ o. at + o) (take i os)) ((at + get_or os i 0) ∷ [])
    ∙ ap (λ xs. base ++ xs) (sym (map-append (λ o. at + o) (take i os) (get_or os i 0 ∷ [])) ∙ ap (λ xs. map (λ o. at + o) xs) (sym (take_more os i 0 l)))
