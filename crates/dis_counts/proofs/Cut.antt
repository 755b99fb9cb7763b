-- What a cut leaves of a heap in which nothing dangles: a value is there exactly where a root or what is there names it.
use Rattle.std.proofs.Common.{◌≡◌, ℕ, zero, suc, ◌+◌, ◌<◌, true, ◌∷◌, [], ◌⊎◌, inl, inr, refl, sym, subst, ◌∙◌, arith, Option, Some, None}
use Rattle.heap_model.specs.Heap.{Heap, at, there, graph, in_one, in_all, stays}
use Rattle.heap_model.proofs.Heap.{part, stays_is, stays_part, there_is}
use Rattle.heap_model.proofs.Kept.{root_kept, used_kept}

pub either : (a b : ℕ) → 0 < a + b → (0 < a) ⊎ (0 < b)
either zero b p = inr (omega arith)
either (suc a) b p = inl (omega arith)

module _ {A : Type 0} (inside : A → ℕ → ℕ) where
  -- All together name what one place names, and where they name something, a place does.
  pub all_name : (h : Heap A) (a n : ℕ) → 0 < in_one inside (at h a) n → 0 < in_all inside h n
  all_name [] a n p = absurd (omega arith)
  all_name (o ∷ os) zero n p = omega arith
  all_name (o ∷ os) (suc a) n p = let z = all_name os a n p in omega arith

  pub one_names : (h : Heap A) (n : ℕ) → 0 < in_all inside h n → (a : ℕ) × (0 < in_one inside (at h a) n)
  one_names [] n p = absurd (omega arith)
  one_names (o ∷ os) n p = elim (either (in_one inside o n) (in_all inside os n) p) [
    | inl q ↦ (0, q)
    | inr q ↦ let r = one_names os n q in (suc r.0, r.1)
  ]

  pub is_there : (o : Option A) (n : ℕ) → 0 < in_one inside o n → there o ≡ true
  is_there None n p = absurd (omega arith)
  is_there (Some a) n p = refl

-- Roots name what is there, and so do the values that are there.
pub record Sound {A : Type 0} (inside : A → ℕ → ℕ) (roots : ℕ → ℕ) (h : Heap A) : Type 0 where
  pub by_root : (n : ℕ) → 0 < roots n → there (at h n) ≡ true
  pub by_value : (n : ℕ) → 0 < in_all inside h n → there (at h n) ≡ true

module _ {A : Type 0} (inside : A → ℕ → ℕ) (roots : ℕ → ℕ) (h : Heap A) where
  -- A place of what stays is as it was.
  as_was : (a n : ℕ) → there (at (stays inside roots h) a) ≡ true → at h a ≡ at (stays inside roots h) a
  as_was a n e = let b = there_is (at (stays inside roots h) a) e in stays_part inside roots h a b.0 b.1 ∙ sym b.1

  pub counted : (n : ℕ) → there (at (stays inside roots h) n) ≡ true → 0 < roots n + in_all inside (stays inside roots h) n
  counted n e = elim ((stays_is inside roots h).held n e) [
    | inl r ↦ omega arith
    | inr (a, t, u) ↦
        let z = all_name inside (stays inside roots h) a n (subst (λ o. 0 < in_one inside o n) (as_was a n t) u) in
        omega arith
  ]

  pub kept_there : Sound inside roots h → (n : ℕ) → 0 < roots n + in_all inside (stays inside roots h) n
      → there (at (stays inside roots h) n) ≡ true
  kept_there sound n p = elim (either (roots n) (in_all inside (stays inside roots h) n) p) [
    | inl r ↦ root_kept (graph inside h) roots (part inside roots h) (stays_is inside roots h) n (sound.by_root n r) r
    | inr q ↦
        let r = one_names inside (stays inside roots h) n q in
        let t = is_there inside (at (stays inside roots h) r.0) n r.1 in
        let u : 0 < in_one inside (at h r.0) n = subst (λ o. 0 < in_one inside o n) (sym (as_was r.0 n t)) r.1 in
        used_kept (graph inside h) roots (part inside roots h) (stays_is inside roots h) r.0 n
        (sound.by_value n (all_name inside h r.0 n u)) t u
  ]
