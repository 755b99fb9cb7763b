-- What a set of labels finds.
use Rattle.std.proofs.Common.{◌≡◌, ◌<◌, ◌+◌, ℕ, zero, suc, Bool, true, false, cond, List, [], ◌∷◌, ◌++◌, length, take, get_or, Some, None}
use Rattle.std.proofs.Common.{inl, inr, refl, sym, ap, subst, ◌∙◌, arith}
use Rattle.std.specs.List.{Contains}
use Rattle.std.specs.Ordering.{nat_cmp, eq_by_cmp}
use Rattle.std.specs.Cmp.{eq_by_cmp_equiv, Equal-is}
use Rattle.std.specs.Cmp.Lexicographic.{slice_cmp, nat_list_cmp_total}
use Rattle.std.specs.BTreeMap.{BTreeMap, Updates}
use Rattle.std.specs.FinMap.{IsAntisymmetric, nat_cmp-IsAntisymmetric, slice_cmp-IsAntisymmetric}
use Rattle.std.proofs.lemmas.List.Elements.{Contains-push, Contains-push_cases, Contains-append_left}
use Rattle.limbo_declarations.specs.Names.{IsAt, IsIndex}
use Rattle.limbo_includes.proofs.Lists.{taken}
use Rattle.limbo_defined.specs.Sets.{get_label, IsSetOf}

same_name : (name : List ℕ) → eq_by_cmp (slice_cmp nat_cmp) name name ≡ true
same_name name = (eq_by_cmp_equiv nat_list_cmp_total).refl name

antisymmetric : IsAntisymmetric (slice_cmp nat_cmp)
antisymmetric = slice_cmp-IsAntisymmetric nat_cmp-IsAntisymmetric

is_name : (n q : List ℕ) → eq_by_cmp (slice_cmp nat_cmp) n q ≡ true → n ≡ q
is_name n q e = antisymmetric n q ((Equal-is (slice_cmp nat_cmp n q)).0 e)

module _ (old new : BTreeMap (List ℕ) ℕ) (all : List (List ℕ)) (n : List ℕ) (v : ℕ) (h : IsSetOf old all)
    (u : Updates (slice_cmp nat_cmp) old new n (Some v)) where
  found_more : (q : List ℕ) (k : ℕ) → get_label new q ≡ Some k → Contains (all ++ n ∷ []) q
  found_more q k g = go (eq_by_cmp (slice_cmp nat_cmp) n q) refl
    where
      go : (b : Bool) → eq_by_cmp (slice_cmp nat_cmp) n q ≡ b → Contains (all ++ n ∷ []) q
      go true e = subst (λ (z : List ℕ). Contains (all ++ n ∷ []) z) (is_name n q e) (Contains-push all n)
      go false e =
          let f : get_label new q ≡ get_label old q = u.0 q ∙ ap (λ b. cond b (Some v) (get_label old q)) e in
          Contains-append_left all (n ∷ []) q (h.found q k (sym f ∙ g))

  absent_more : (q : List ℕ) → get_label new q ≡ None → Contains (all ++ n ∷ []) q → ⊥
  absent_more q g c = go (eq_by_cmp (slice_cmp nat_cmp) n q) refl
    where
      go : (b : Bool) → eq_by_cmp (slice_cmp nat_cmp) n q ≡ b → ⊥
      go true e = absurd (let f : get_label new q ≡ Some v = u.0 q ∙ ap (λ b. cond b (Some v) (get_label old q)) e in cc)
      go false e =
          let f : get_label new q ≡ get_label old q = u.0 q ∙ ap (λ b. cond b (Some v) (get_label old q)) e in
          elim (Contains-push_cases all n q c) [
            | inl d ↦ h.absent q (sym f ∙ g) d
            | inr s ↦ absurd (let w : eq_by_cmp (slice_cmp nat_cmp) n q ≡ true = subst
                (λ (z : List ℕ). eq_by_cmp (slice_cmp nat_cmp) n z ≡ true) s (same_name n) in cc)
          ]

  -- one label more
  pub set_more : IsSetOf new (all ++ n ∷ [])
  set_more = record { found = found_more; absent = absent_more }

-- the set after one more label of a list
pub set_step :
    (old new : BTreeMap (List ℕ) ℕ) (k : ℕ) (all : List (List ℕ)) (r : List ℕ) → IsSetOf old (take k all) → k < length all
    → r ≡ get_or all k r → Updates (slice_cmp nat_cmp) old new r (Some k) → IsSetOf new (take (k + 1) all)
set_step old new k all r h l e u =
    subst (λ (z : List (List ℕ)). IsSetOf new z) (sym (taken all k r l e)) (set_more old new (take k all) r k h u)

take_all : (all : List (List ℕ)) → take (length all) all ≡ all
take_all [] = refl
take_all (x ∷ all) = ap (λ ns. x ∷ ns) (take_all all)

pub set_end : (set : BTreeMap (List ℕ) ℕ) (all : List (List ℕ)) (k : ℕ) → IsSetOf set (take k all) → k ≡ length all → IsSetOf set all
set_end set all k h e = subst (λ (z : List (List ℕ)). IsSetOf set z) (ap (λ (j : ℕ). take j all) e ∙ take_all all) h

-- ---- an index is a set

place_of : (all : List (List ℕ)) (q : List ℕ) → Contains all q → (k : ℕ) × IsAt all k q
place_of [] q c = absurd (let l = c.1 in omega arith)
place_of (x ∷ all) q (zero, l, e) = (zero, ap (λ (z : List ℕ). Some z) e)
place_of (x ∷ all) q (suc k, l, e) = let p = place_of all q (k, omega arith, e) in (suc p.0, p.1)

stands_at : (all : List (List ℕ)) (k : ℕ) (q : List ℕ) → IsAt all k q → Contains all q
stands_at [] k q h = absurd cc
stands_at (x ∷ all) zero q h = (zero, omega arith, let e : x ≡ q = cc in e)
stands_at (x ∷ all) (suc k) q h = let c = stands_at all k q h in (suc c.0, let l = c.1 in omega arith, c.2)

pub index_set : (index : BTreeMap (List ℕ) ℕ) (all : List (List ℕ)) → IsIndex index all → IsSetOf index all
index_set index all h = record {
  found = λ q k g. stands_at all k q ((h q k).0 g);
  absent = λ q g c. let p = place_of all q c in absurd (let f : get_label index q ≡ Some p.0 = (h q p.0).1 p.1 in cc);
}
