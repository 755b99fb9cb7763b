-- What is found in one list of labels is found in another that says the same.
use Rattle.std.proofs.Common.{◌≡◌, ℕ, zero, suc, ℤ, ◌≤ℤ◌, ◌<ℤ◌, List, [], ◌∷◌, map, Option, Some, None, true, refl, sym, ap, subst, arith, int_cmp, is_le}
use Rattle.std.specs.Cmp.{IsTotalOrder}
use Rattle.std.proofs.lemmas.Int.{ints}
use Rattle.std.specs.declared.cmp.Ordering.{Ordering}
use Rattle.std.specs.declared.cmp.Ordering.TheVariants.{Less, Equal, Greater}
use Rattle.std.specs.Ordering.{MatchOrdering}
use Rattle.std.proofs.lemmas.Cmp.{int_ranked}
use Rattle.limbo_cases.specs.declared.label.Label.{Label}
use Rattle.limbo_cases.specs.Labels.{StandsAt, AtMost, Overlap, OverlapsAt, Finds}
use Rattle.limbo_cases.proofs.Orders.{overlap_filled, overlap_ends, overlap_by_ends}

-- ---- one relation in place of another

moved : {A : Type 0} (at_most other : A → A → Type 0) → ((x y : A) → at_most x y → other x y) → (labels : List (Label A)) (i j : ℕ)
    → OverlapsAt at_most labels i j → OverlapsAt other labels i j
moved {A} at_most other to labels i j o = record {
  before = o.before;
  label = o.label;
  stands = o.stands;
  other = o.other;
  stands_later = o.stands_later;
  overlap = record {
    value = o.overlap.value;
    fits = record { low = to _ _ o.overlap.fits.low; high = to _ _ o.overlap.fits.high };
    fits_too = record { low = to _ _ o.overlap.fits_too.low; high = to _ _ o.overlap.fits_too.high };
  };
}

pub found_by : {A : Type 0} (at_most other : A → A → Type 0) → ((x y : A) → at_most x y → other x y)
    → ((x y : A) → other x y → at_most x y) → (labels : List (Label A)) (found : Option (ℕ × ℕ))
    → Finds at_most labels found → Finds other labels found
found_by at_most other to back labels None apart = λ i j o. apart i j (moved other at_most back labels i j o)
found_by at_most other to back labels (Some pair) f = record {
  overlaps = moved at_most other to labels pair.0 pair.1 f.overlaps;
  first = λ i j l o. f.first i j l (moved other at_most back labels i j o);
}

-- ---- the labels that a function gives of others, where it keeps the order

abbrev pub mapped : {A B : Type 0} → (A → B) → Label A → Label B
mapped f a = record { low = f a.low; high = f a.high }

module _ {A B : Type 0} {order : A → A → Ordering} {other : B → B → Ordering} (total : IsTotalOrder order) (other_total : IsTotalOrder other) (f : A → B)
    (same : (x y : A) → order x y ≡ other (f x) (f y)) where
  at_most_there : (x y : A) → AtMost order x y → AtMost other (f x) (f y)
  at_most_there x y h = subst (λ (o : Ordering). is_le o ≡ true) (same x y) h

  at_most_here : (x y : A) → AtMost other (f x) (f y) → AtMost order x y
  at_most_here x y h = subst (λ (o : Ordering). is_le o ≡ true) (sym (same x y)) h

  overlap_there : (a b : Label A) → Overlap (AtMost order) a b → Overlap (AtMost other) (mapped f a) (mapped f b)
  overlap_there a b o = record {
    value = f o.value;
    fits = record { low = at_most_there _ _ o.fits.low; high = at_most_there _ _ o.fits.high };
    fits_too = record { low = at_most_there _ _ o.fits_too.low; high = at_most_there _ _ o.fits_too.high };
  }

  overlap_here : (a b : Label A) → Overlap (AtMost other) (mapped f a) (mapped f b) → Overlap (AtMost order) a b
  overlap_here a b o =
      let filled = overlap_filled other_total (mapped f a) (mapped f b) o in
      let ends = overlap_ends other_total (mapped f a) (mapped f b) o in
      overlap_by_ends total a b (at_most_here _ _ filled.0) (at_most_here _ _ filled.1) (at_most_here _ _ ends.0) (at_most_here _ _ ends.1)

  stands_there : (labels : List (Label A)) (i : ℕ) (a : Label A) → StandsAt labels i a → StandsAt (map (mapped f) labels) i (mapped f a)
  stands_there [] i a h = absurd cc
  stands_there (b ∷ labels) zero a h = let e : b ≡ a = cc in ap (λ z. Some (mapped f z)) e
  stands_there (b ∷ labels) (suc i) a h = stands_there labels i a h

  stands_here : (labels : List (Label A)) (i : ℕ) (b : Label B) → StandsAt (map (mapped f) labels) i b → (a : Label A) × StandsAt labels i a × (mapped f a ≡ b)
  stands_here [] i b h = absurd cc
  stands_here (a ∷ labels) zero b h = (a, refl, cc)
  stands_here (a ∷ labels) (suc i) b h = stands_here labels i b h

  overlaps_there : (labels : List (Label A)) (i j : ℕ) → OverlapsAt (AtMost order) labels i j → OverlapsAt (AtMost other) (map (mapped f) labels) i j
  overlaps_there labels i j o = record {
    before = o.before;
    label = mapped f o.label;
    stands = stands_there labels i o.label o.stands;
    other = mapped f o.other;
    stands_later = stands_there labels j o.other o.stands_later;
    overlap = overlap_there o.label o.other o.overlap;
  }

  overlaps_here : (labels : List (Label A)) (i j : ℕ) → OverlapsAt (AtMost other) (map (mapped f) labels) i j → OverlapsAt (AtMost order) labels i j
  overlaps_here labels i j o =
      let a = stands_here labels i o.label o.stands in
      let b = stands_here labels j o.other o.stands_later in
      record {
        before = o.before;
        label = a.0;
        stands = a.1;
        other = b.0;
        stands_later = b.1;
        overlap = overlap_here a.0 b.0 (rw (a.2, b.2) o.overlap);
      }

  pub found_in : (labels : List (Label A)) (found : Option (ℕ × ℕ)) → Finds (AtMost order) labels found → Finds (AtMost other) (map (mapped f) labels) found
  found_in labels None apart = λ i j o. apart i j (overlaps_here labels i j o)
  found_in labels (Some pair) g = record {
    overlaps = overlaps_there labels pair.0 pair.1 g.overlaps;
    first = λ i j l o. g.first i j l (overlaps_here labels i j o);
  }

-- ---- integers

ranks : (x y : ℤ) (o : Ordering) → MatchOrdering o (x <ℤ y) (x ≡ y) (y <ℤ x) → is_le o ≡ true → x ≤ℤ y
ranks x y Less m h = let k : x <ℤ y = m in omega (arith, ints)
ranks x y Equal m h = let k : x ≡ y = m in omega (arith, ints)
ranks x y Greater m h = absurd cc

ranked_back : (x y : ℤ) (o : Ordering) → MatchOrdering o (x <ℤ y) (x ≡ y) (y <ℤ x) → x ≤ℤ y → is_le o ≡ true
ranked_back x y Less m h = refl
ranked_back x y Equal m h = refl
ranked_back x y Greater m h = let k : y <ℤ x = m in absurd (omega (arith, ints))

pub int_at_most : (x y : ℤ) → AtMost int_cmp x y → x ≤ℤ y
int_at_most x y h = ranks x y (int_cmp x y) (int_ranked x y (int_cmp x y) refl) h

pub at_most_int : (x y : ℤ) → x ≤ℤ y → AtMost int_cmp x y
at_most_int x y h = ranked_back x y (int_cmp x y) (int_ranked x y (int_cmp x y) refl) h
