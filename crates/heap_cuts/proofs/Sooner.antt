-- What wouldn't stay may go before.
use Rattle.std.proofs.Common.{◌≡◌, ℕ, zero, suc, ◌<◌, ◌≤◌, Bool, true, false, cond, [], ◌∷◌, Option, Some, None}
use Rattle.std.proofs.Common.{refl, sym, ap, subst, ◌∙◌, arith, ◌⊎◌, inl, inr}
use Rattle.std.specs.Prelude.{slice_set}
use Rattle.std.proofs.lemmas.Bool.Decides.{eqb_tells}
use Rattle.heap_model.specs.Kept.{Held}
use Rattle.heap_model.specs.Heap.{Heap, at, graph, in_all, in_one, stays, there}
use Rattle.heap_model.proofs.Heap.{part, same_places, stays_at, stays_is, stays_length, stays_part, there_is}
use Rattle.heap_cuts.specs.Laws.{LosesOnlyWhatGoes}
use Rattle.heap_cuts.proofs.Listed.{set_apart, set_length}

one_in_all : {A : Type 0} (inside : A → ℕ → ℕ) (h : Heap A) (a n : ℕ) → in_one inside (at h a) n ≤ in_all inside h n
one_in_all inside [] a n = omega arith
one_in_all inside (o ∷ os) zero n = omega arith
one_in_all inside (o ∷ os) (suc a) n = let z = one_in_all inside os a n in omega arith

beside : (b c : Bool) → (b ≡ true → c ≡ true) → (c ≡ true → b ≡ true) → b ≡ c
beside true c f g = sym (f refl)
beside false true f g = g refl
beside false false f g = refl

bool_or : (b : Bool) → (b ≡ true) ⊎ (b ≡ false)
bool_or true = inl refl
bool_or false = inr refl

module _ {A : Type 0} (inside : A → ℕ → ℕ) (roots : ℕ → ℕ) (h : Heap A) where
  -- what stays is as it was
  stay_at : (n : ℕ) → part inside roots h n ≡ true → at (stays inside roots h) n ≡ at h n
  stay_at n e = stays_at inside roots h n ∙ ap (λ b. cond {A = Option A} b (at h n) None) e

  module _ (g : Heap A) (less : LosesOnlyWhatGoes inside roots h g) where
    -- what is there in the smaller one is as it was
    was : (n : ℕ) → there (at g n) ≡ true → at h n ≡ at g n
    was n e = let a = there_is (at g n) e in less.part n a.0 a.1 ∙ sym a.1

    -- and what stays of the greater one is there in it
    has : (n : ℕ) → part inside roots h n ≡ true → at g n ≡ at h n
    has n e = let a = there_is (at (stays inside roots h) n) e in less.has n a.0 a.1 ∙ sym (stays_part inside roots h n a.0 a.1)

    down : (n : ℕ) → part inside roots h n ≡ true → part inside roots g n ≡ true
    down n e = (stays_is inside roots g).greatest (λ k. part inside roots h k ≡ true) both n e
      where
        both : (k : ℕ) → part inside roots h k ≡ true
            → (there (at g k) ≡ true) × Held (graph inside g) roots (λ a. part inside roots h a ≡ true) k
        both k x = (
          ap there (has k x) ∙ (stays_is inside roots h).alive k x,
          elim ((stays_is inside roots h).held k x) [
            | inl r ↦ inl r
            | inr s ↦ inr (s.0, s.1, subst (λ (o : Option A). 0 < in_one inside o k) (sym (has s.0 s.1)) s.2)
          ],
        )

    up : (n : ℕ) → part inside roots g n ≡ true → part inside roots h n ≡ true
    up n e = (stays_is inside roots h).greatest (λ k. part inside roots g k ≡ true) both n e
      where
        both : (k : ℕ) → part inside roots g k ≡ true
            → (there (at h k) ≡ true) × Held (graph inside h) roots (λ a. part inside roots g a ≡ true) k
        both k x =
            let is = stays_is inside roots g in (
              ap there (was k (is.alive k x)) ∙ is.alive k x,
              elim (is.held k x) [
                | inl r ↦ inl r
                | inr s ↦ inr (s.0, s.1, subst (λ (o : Option A). 0 < in_one inside o k) (sym (was s.0 (is.alive s.0 s.1))) s.2)
              ],
            )

    pub early : stays inside roots g ≡ stays inside roots h
    early =
        same_places (stays inside roots g) (stays inside roots h)
        (stays_length inside roots g ∙ less.long ∙ sym (stays_length inside roots h)) (λ n.
        stays_at inside roots g n ∙ elim (bool_or (part inside roots h n)) [
          | inl e ↦ ap (λ b. cond {A = Option A} b (at g n) None) (down n e) ∙ has n e ∙ sym (stay_at n e)
          | inr e ↦ ap (λ b. cond {A = Option A} b (at g n) None) (beside _ _ (up n) (down n) ∙ e)
              ∙ sym (stays_at inside roots h n ∙ ap (λ b. cond {A = Option A} b (at h n) None) e)
        ])

  -- a place that nobody names
  pub unnamed_early : (k : ℕ) → roots k ≡ 0 → in_all inside h k ≡ 0 → LosesOnlyWhatGoes inside roots h (slice_set h k None)
  unnamed_early k r i = record {
    long = set_length h k None;
    part = λ n a e. elim (eqb_tells n k) [
      | inl y ↦ absurd (emptied n a y.1 e)
      | inr y ↦ sym (set_apart h k None n y.1) ∙ e
    ];
    has = λ n a e. elim (eqb_tells n k) [
      | inl y ↦ absurd (unheld n a y.1 e)
      | inr y ↦ set_apart h k None n y.1 ∙ stays_part inside roots h n a e
    ];
  }
    where
      emptied_at : (g : Heap A) (q : ℕ) → at (slice_set g q None) q ≡ None
      emptied_at [] q = refl
      emptied_at (o ∷ os) zero = refl
      emptied_at (o ∷ os) (suc q) = emptied_at os q

      emptied : (n : ℕ) (a : A) → n ≡ k → at (slice_set h k None) n ≡ Some a → ⊥
      emptied n a y e = (let z : None ≡ Some a = sym (emptied_at h k) ∙ ap (at (slice_set h k None)) (sym y) ∙ e in cc)

      unheld : (n : ℕ) (a : A) → n ≡ k → at (stays inside roots h) n ≡ Some a → ⊥
      unheld n a y e = elim ((stays_is inside roots h).held n (ap there e)) [
        | inl x ↦ let z : roots n ≡ roots k = ap roots y in omega arith
        | inr s ↦
            let z : in_all inside h n ≡ in_all inside h k = ap (in_all inside h) y in
            let w = one_in_all inside h s.0 n in
            omega (arith, s.2)
      ]

-- a cut by more roots, and then one by fewer
pub twice_early : {A : Type 0} (inside : A → ℕ → ℕ) (roots fewer : ℕ → ℕ) (h : Heap A) → ((n : ℕ) → fewer n ≤ roots n)
    → LosesOnlyWhatGoes inside fewer h (stays inside roots h)
twice_early inside roots fewer h l = record {
  long = stays_length inside roots h;
  part = stays_part inside roots h;
  has = λ n a e.
      let more = (stays_is inside roots h).greatest (λ k. part inside fewer h k ≡ true) both n (ap there e) in
      stay_at inside roots h n more ∙ stays_part inside fewer h n a e;
}
  where
    both : (k : ℕ) → part inside fewer h k ≡ true
        → (there (at h k) ≡ true) × Held (graph inside h) roots (λ a. part inside fewer h a ≡ true) k
    both k x = (
      (stays_is inside fewer h).alive k x,
      elim ((stays_is inside fewer h).held k x) [
        | inl r ↦ inl (let z = l k in omega arith)
        | inr s ↦ inr s
      ],
    )
