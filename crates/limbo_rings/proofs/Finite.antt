-- Without rings what stays is what is reached.
use Rattle.std.proofs.Common.{◌≡◌, ℕ, zero, suc, ◌<◌, ◌⊎◌, inl, inr, refl, sym, ap, subst, arith, Bool, true, List, [], ◌∷◌, length}
use Rattle.limbo_layout.specs.Adts.{Has}
use Rattle.heap_model.specs.Kept.{Graph, Held, here, on, Reached}
use Rattle.heap_model.specs.Heap.{graph}
use Rattle.heap_model.specs.Laws.{staying}
use Rattle.heap_model.proofs.Heap.{within}
use Rattle.heap_model.proofs.Staying.{what_stays}
use Rattle.limbo_rings.specs.Rings.{Leads, at_once, further, HasNoRing, NoRingsNoneLost}

-- ---- a list without one of its members

abbrev less : (us : List ℕ) (n : ℕ) → Has us n → List ℕ
less [] n h = []
less (u ∷ us) n (inl e) = us
less (u ∷ us) n (inr h) = u ∷ less us n h

less_long : (us : List ℕ) (n : ℕ) (h : Has us n) → suc (length (less us n h)) ≡ length us
less_long [] n h = absurd h
less_long (u ∷ us) n (inl e) = refl
less_long (u ∷ us) n (inr h) = ap suc (less_long us n h)

less_has : (us : List ℕ) (n : ℕ) (h : Has us n) (b : ℕ) → (n ≡ b → ⊥) → Has us b → Has (less us n h) b
less_has [] n h b other k = absurd h
less_has (u ∷ us) n (inl e) b other (inl f) = absurd (other (let g : u ≡ n = e in cc))
less_has (u ∷ us) n (inl e) b other (inr k) = k
less_has (u ∷ us) n (inr h) b other (inl f) = inl f
less_has (u ∷ us) n (inr h) b other (inr k) = inr (less_has us n h b other k)

-- ---- all numbers below one

abbrev below : ℕ → List ℕ
below zero = []
below (suc n) = n ∷ below n

below_has : (n a : ℕ) → a < n → Has (below n) a
below_has zero a l = absurd (omega arith)
below_has (suc n) a l = elim (omega_cases n a l) [ inl e ↦ inl e | inr k ↦ inr (below_has n a k) ]
  where
    omega_cases : (n a : ℕ) → a < suc n → (n ≡ a) ⊎ (a < n)
    omega_cases zero zero l = inl refl
    omega_cases zero (suc a) l = absurd (omega arith)
    omega_cases (suc n) zero l = inr (omega arith)
    omega_cases (suc n) (suc a) l = elim (omega_cases n a (omega arith)) [ inl e ↦ inl (ap suc e) | inr k ↦ inr (omega arith) ]

leads_on : (g : Graph) (a b c : ℕ) → Leads g a b → 0 < g.uses b c → Leads g a c
leads_on g _ _ c (at_once a b u) v = further a b c u (at_once b c v)
leads_on g _ _ c (further a b d u l) v = further a b c u (leads_on g b d c l v)

-- back along references, where those that are left grow fewer
module _ (g : Graph) (roots : ℕ → ℕ) (part : ℕ → Bool) (none : HasNoRing g)
    (held : (n : ℕ) → part n ≡ true → (g.live n ≡ true) × Held g roots (λ a. part a ≡ true) n) where
  abbrev Comes : ℕ → ℕ → Type 0
  Comes b n = (b ≡ n) ⊎ Leads g b n

  comes_on : (b a n : ℕ) → Comes b a → 0 < g.uses a n → Leads g b n
  comes_on b a n (inl e) u = subst (λ (x : ℕ). Leads g x n) (sym e) (at_once a n u)
  comes_on b a n (inr l) u = leads_on g b a n l u

  back : (fuel : ℕ) (us : List ℕ) → length us ≡ fuel → (n : ℕ) → Held g roots (λ a. part a ≡ true) n
      → ((b : ℕ) → part b ≡ true → Comes b n → Has us b) → Has us n → Reached g roots n
  back fuel us long n (inl r) all mine = record { root = n; is = r; way = here }
  back zero us long n (inr q) all mine = let l = less_long us n mine in absurd (omega arith)
  back (suc k) us long n (inr (a, t, u)) all mine =
      let l = less_long us n mine in
      let left : (b : ℕ) → part b ≡ true → Comes b a → Has (less us n mine) b = λ b s w.
      less_has us n mine b (λ f. none n (subst (λ (x : ℕ). Leads g x n) (sym f) (comes_on b a n w u)))
      (all b s (inr (comes_on b a n w u))) in
      let r = back k (less us n mine) (omega arith) a (held a t).1 left (left a t (inl refl)) in
      record { root = r.root; is = r.is; way = on r.way (held a t).0 u }

pub no_rings_none_lost : {A : Type 0} → NoRingsNoneLost A
no_rings_none_lost {A} inside roots h none n stay =
    let kept = ((what_stays A).greatest inside roots h).keeps_itself in
    let all : (b : ℕ) → staying inside roots h b ≡ true → Has (below (length h)) b = λ b s.
    below_has (length h) b (within h b (kept b s).0) in
    back (graph inside h) roots (staying inside roots h) none kept (length (below (length h))) (below (length h)) refl n
    (kept n stay).1 (λ b s w. all b s) (all n stay)
