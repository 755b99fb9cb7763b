-- The greatest part of a heap that is named: what is in it, and what it has without rings.
use Rattle.std.proofs.Common.{◌≡◌, ℕ, zero, suc, ◌<◌, Bool, true, false, sym, subst, arith, refl, ◌⊎◌, inl, inr}
use Rattle.heap_model.specs.Kept.{Graph, Held, IsKept, Path, here, on, Reached, IsClosed, times}

pub times_true : (a : Bool) (n : ℕ) → a ≡ true → times a n ≡ n
times_true true n e = refl
times_true false n e = absurd cc

pub times_some : (a : Bool) (n : ℕ) → 0 < times a n → (a ≡ true) × (0 < n)
times_some true n p = (refl, p)
times_some false n p = absurd (omega arith)

module _ (g : Graph) (roots : ℕ → ℕ) (part : ℕ → Bool) (is : IsKept g roots part) where
  pub held_more : (some other : ℕ → Type 0) (n : ℕ) → ((a : ℕ) → some a → other a) → Held g roots some n → Held g roots other n
  held_more some other n h (inl r) = inl r
  held_more some other n h (inr r) = inr (r.0, h r.0 r.1, r.2)

  -- with one that a root names
  pub root_kept : (n : ℕ) → g.live n ≡ true → 0 < roots n → part n ≡ true
  root_kept n l r = is.greatest (λ m. (m ≡ n) ⊎ (part m ≡ true))
      (λ m. elim [
        | inl e ↦ (subst (λ m. g.live m ≡ true) (sym e) l, inl (subst (λ m. 0 < roots m) (sym e) r))
        | inr e ↦ (is.alive m e, held_more _ _ m (λ a h. inr h) (is.held m e))
      ]) n (inl refl)

  -- and what one that stays names
  pub used_kept : (a n : ℕ) → g.live n ≡ true → part a ≡ true → 0 < g.uses a n → part n ≡ true
  used_kept a n l k u = is.greatest (λ m. (m ≡ n) ⊎ (part m ≡ true))
      (λ m. elim [
        | inl e ↦ (subst (λ m. g.live m ≡ true) (sym e) l, inr (a, inr k, subst (λ m. 0 < g.uses a m) (sym e) u))
        | inr e ↦ (is.alive m e, held_more _ _ m (λ a h. inr h) (is.held m e))
      ]) n (inl refl)

  pub path_kept : (c : IsClosed g) (a n : ℕ) → part a ≡ true → Path g a n → part n ≡ true
  path_kept c a n k here = k
  path_kept c a n k (on {b = b} p l u) = used_kept b n (c.closed b n l u) (path_kept c a b k p) u

  pub reached_kept : (c : IsClosed g) (live : (n : ℕ) → 0 < roots n → g.live n ≡ true) (n : ℕ) → Reached g roots n → part n ≡ true
  reached_kept c live n r = path_kept c r.root n (root_kept r.root (live r.root r.is) r.is) r.way

-- all that is there stays
pub IsAll : Graph → (ℕ → Bool) → Type 0
IsAll g part = (n : ℕ) → g.live n ≡ true → part n ≡ true

pub all_of : (g : Graph) (part : ℕ → Bool) → ((n : ℕ) → g.live n ≡ true → part n ≡ true) → IsAll g part
unfolding IsAll
all_of g part h = h

pub of_all : (g : Graph) (part : ℕ → Bool) → IsAll g part → (n : ℕ) → g.live n ≡ true → part n ≡ true
unfolding IsAll
of_all g part h = h

-- a step that lets no reference go, and makes only what it names
pub quiet : (g g' : Graph) (roots roots' : ℕ → ℕ) (part part' : ℕ → Bool) → IsKept g roots part → IsKept g' roots' part' → IsAll g part
    → ((n : ℕ) → 0 < roots n → 0 < roots' n)
    → ((a b : ℕ) → g.live a ≡ true → 0 < g.uses a b → 0 < g'.uses a b)
    → ((n : ℕ) → g.live n ≡ true → g'.live n ≡ true)
    → ((n : ℕ) → g'.live n ≡ true → (g.live n ≡ true) ⊎ (0 < roots' n))
    → IsAll g' part'
unfolding IsAll
quiet g g' roots roots' part part' is is' all r u l made n e =
    is'.greatest (λ n. g'.live n ≡ true) (λ n e. (e, elim (made n e) [ inl o ↦ held n (is.held n (all n o)) | inr x ↦ inl x ])) n e
  where
    held : (n : ℕ) → Held g roots (λ a. part a ≡ true) n → Held g' roots' (λ a. g'.live a ≡ true) n
    held n (inl x) = inl (r n x)
    held n (inr (a, t, x)) = inr (a, l a (is.alive a t), u a n (is.alive a t) x)

-- Where a rank rises along references, what stays is reached from a root: nothing that is out of reach stays.
pub kept_reached : (g : Graph) (roots : ℕ → ℕ) (part : ℕ → Bool) → IsKept g roots part → (rank : ℕ → ℕ) → ((a b : ℕ) → g.live a ≡ true → 0 < g.uses a b → rank a < rank b) → (n : ℕ) → part n ≡ true → Reached g roots n
kept_reached g roots part is rank rises n e = go (suc (rank n)) n (omega arith) e
  where
    go : (fuel n : ℕ) → rank n < fuel → part n ≡ true → Reached g roots n
    go zero n l e = absurd (omega arith)
    go (suc fuel) n l e = elim (is.held n e) [
      | inl r ↦ record { root = n; is = r; way = here }
      | inr (a, t, u) ↦
          let q = go fuel a (let x = rises a n (is.alive a t) u in omega arith) t in
          record { root = q.root; is = q.is; way = on q.way (is.alive a t) u }
    ]
