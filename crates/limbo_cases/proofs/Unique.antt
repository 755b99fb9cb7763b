-- What is apart, and what is first, for any relation between values.
use Rattle.std.proofs.Common.{ℕ, ◌≡◌, ◌<◌, ◌⊎◌, inl, inr, arith}
use Rattle.limbo_cases.specs.Laws.{AtMostOne, FirstIsOne}

three : (p q : ℕ) → (p < q) ⊎ ((p ≡ q) ⊎ (q < p))
three p q = grind arith

pub at_most_one : {A : Type 0} (at_most : A → A → Type 0) → AtMostOne at_most
at_most_one at_most labels apart value i j a b s t f h = elim (three i j) [
  | inl less ↦ absurd (apart i j (record {
    before = less;
    label = a;
    stands = s;
    other = b;
    stands_later = t;
    overlap = record { value = value; fits = f; fits_too = h };
  }))
  | inr (inl e) ↦ e
  | inr (inr more) ↦ absurd (apart j i (record {
    before = more;
    label = b;
    stands = t;
    other = a;
    stands_later = s;
    overlap = record { value = value; fits = h; fits_too = f };
  }))
]

pub first_is_one : {A : Type 0} (at_most : A → A → Type 0) → FirstIsOne at_most
first_is_one at_most = record {
  one = λ labels i j m n f h. elim (three m n) [
    | inl less ↦ absurd (h.first i m less f.overlaps)
    | inr (inl e) ↦ e
    | inr (inr more) ↦ absurd (f.first j n more h.overlaps)
  ];
  none = λ labels i m apart f. apart i m f.overlaps;
}
