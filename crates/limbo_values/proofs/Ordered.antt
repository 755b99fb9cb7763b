-- The order of strings.
use Rattle.std.proofs.Common.{◌≡◌, ℕ, List, false, IsTrue, ◌⊎◌, inl, inr, refl, sym, subst, arith, nat_cmp, is_eq, is_le, is_gt}
use Rattle.std.specs.declared.cmp.Ordering.{Ordering}
use Rattle.std.specs.declared.cmp.Ordering.TheVariants.{Less, Equal, Greater}
use Rattle.std.specs.Ordering.{ordering_reverse}
use Rattle.std.specs.Cmp.Lexicographic.{slice_cmp}
use Rattle.std.proofs.lemmas.Cmp.{nat_list_cmp_total, upto, tied_itself}
use Rattle.std.proofs.lemmas.Map.Lookups.{exact_bytes}
use Rattle.limbo_values.specs.Laws.{TextsAreOrdered}

abbrev order : List ℕ → List ℕ → Ordering
order s t = slice_cmp nat_cmp s t

-- at most is not greater
not_above : (o : Ordering) → IsTrue (is_le o) → is_gt o ≡ false
not_above Less h = refl
not_above Equal h = refl
not_above Greater h = grind arith

at_most : (o : Ordering) → is_gt o ≡ false → IsTrue (is_le o)
at_most Less e = refl
at_most Equal e = refl
at_most Greater e = grind arith

-- two that are at most the other are tied
tied : (o p : Ordering) → o ≡ ordering_reverse p → IsTrue (is_le o) → IsTrue (is_le p) → o ≡ Equal
tied Less Less e h k = grind arith
tied Less Equal e h k = grind arith
tied Less Greater e h k = grind arith
tied Equal p e h k = refl
tied Greater p e h k = grind arith

either : (o p : Ordering) → o ≡ ordering_reverse p → IsTrue (is_le o) ⊎ IsTrue (is_le p)
either Less p e = inl refl
either Equal p e = inl refl
either Greater Less e = inr refl
either Greater Equal e = inr refl
either Greater Greater e = grind arith

equal_is : (o : Ordering) → IsTrue (is_eq o) → o ≡ Equal
equal_is Less h = grind arith
equal_is Equal h = refl
equal_is Greater h = grind arith

pub texts_are_ordered : TextsAreOrdered
texts_are_ordered = record {
  reflexive = λ s. let P : Ordering → Type 0 = λ o. IsTrue (is_le o) in subst P (sym (tied_itself nat_list_cmp_total s)) refl;
  antisymmetric = λ s t h k. exact_bytes s t (tied (order s t) (order t s) (nat_list_cmp_total.antisymm s t) h k);
  transitive = λ s t u h k. at_most (order s u) (upto nat_list_cmp_total s t u (not_above (order s t) h) (not_above (order t u) k));
  total = λ s t. either (order s t) (order t s) (nat_list_cmp_total.antisymm s t);
  equal = λ s t. (
    λ h. exact_bytes s t (equal_is (order s t) h),
    λ e. let P : List ℕ → Type 0 = λ x. IsTrue (is_eq (order s x)) in
        subst P e (let Q : Ordering → Type 0 = λ o. IsTrue (is_eq o) in subst Q (sym (tied_itself nat_list_cmp_total s)) refl),
  );
}
