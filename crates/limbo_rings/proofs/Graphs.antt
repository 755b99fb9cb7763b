-- Rings in graphs.
use Rattle.std.proofs.Common.{◌≡◌, ℕ, ◌<◌, ◌⊎◌, inl, inr, subst}
use Rattle.heap_model.specs.Kept.{Graph}
use Rattle.limbo_rings.specs.Rings.{Leads, at_once, further, HasNoRing}

-- Where each new reference is that of one value, to others that never lead back to it, no ring comes.
module _ (g h : Graph) (o : ℕ) (P : ℕ → Type 0)
    (next : (a b : ℕ) → P a → 0 < g.uses a b → P b)
    (never : P o → ⊥)
    (new : (a b : ℕ) → 0 < h.uses a b → (0 < g.uses a b) ⊎ ((a ≡ o) × P b)) where
  old_way : (a b : ℕ) → Leads g a b → P a → P b
  old_way _ _ (at_once a b u) p = next a b p u
  old_way _ _ (further a b c u l) p = old_way b c l (next a b p u)

  new_way : (a b : ℕ) → Leads h a b → P a → P b
  new_way _ _ (at_once a b u) p = elim (new a b u) [ inl v ↦ next a b p v | inr q ↦ q.1 ]
  new_way _ _ (further a b c u l) p = new_way b c l (elim (new a b u) [ inl v ↦ next a b p v | inr q ↦ q.1 ])

  ways : (a b : ℕ) → Leads h a b → Leads g a b ⊎ (((a ≡ o) ⊎ Leads h a o) × P b)
  ways _ _ (at_once a b u) = elim (new a b u) [ inl v ↦ inl (at_once a b v) | inr q ↦ inr (inl q.0, q.1) ]
  ways _ _ (further a b c u l) = elim (ways b c l) [
    | inl k ↦ elim (new a b u) [
      | inl v ↦ inl (further a b c v k)
      | inr q ↦ inr (inl q.0, old_way b c k q.1)
    ]
    | inr q ↦ inr (
      elim q.0 [
        | inl e ↦ inr (subst (λ (x : ℕ). Leads h a x) e (at_once a b u))
        | inr k ↦ inr (further a b o u k)
      ],
      q.1,
    )
  ]

  pub no_ring_comes : HasNoRing g → HasNoRing h
  no_ring_comes none n l = elim (ways n n l) [
    | inl k ↦ none n k
    | inr q ↦ elim q.0 [
      | inl e ↦ never (subst P e q.1)
      | inr k ↦ never (new_way n o k q.1)
    ]
  ]
