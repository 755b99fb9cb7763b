-- What an index finds, name by name.
use Rattle.std.proofs.Common.{◌≡◌, ◌≢◌, ◌<◌, ◌+◌, ◌⊎◌, inl, inr, ℕ, zero, suc, Bool, true, false, cond, List, [], ◌∷◌, ◌++◌, length, map, take, get_or, Option, Some, None, refl, sym, ap, subst, ◌∙◌, arith}
use Rattle.std.specs.Prelude.{slice_get}
use Rattle.std.specs.Ordering.{nat_cmp, eq_by_cmp}
use Rattle.std.specs.Cmp.{eq_by_cmp_equiv, Equal-is}
use Rattle.std.specs.Cmp.Lexicographic.{slice_cmp, nat_list_cmp_total}
use Rattle.std.specs.BTreeMap.{BTreeMap, get_by, Updates}
use Rattle.std.specs.FinMap.{IsAntisymmetric, nat_cmp-IsAntisymmetric, slice_cmp-IsAntisymmetric}
use Rattle.limbo_declarations.specs.Names.{IsAt, AreOnce, IsRepeated, IsIndex}

-- ---- places in a list

at_left : (ns : List (List ℕ)) (n : List ℕ) (k : ℕ) (q : List ℕ) → IsAt ns k q → IsAt (ns ++ (n ∷ [])) k q
at_left [] n k q h = absurd cc
at_left (x ∷ ns) n zero q h = h
at_left (x ∷ ns) n (suc k) q h = at_left ns n k q h

at_end : (ns : List (List ℕ)) (n : List ℕ) → IsAt (ns ++ (n ∷ [])) (length ns) n
at_end [] n = refl
at_end (x ∷ ns) n = at_end ns n

at_cases : (ns : List (List ℕ)) (n : List ℕ) (k : ℕ) (q : List ℕ) → IsAt (ns ++ (n ∷ [])) k q → IsAt ns k q ⊎ ((k ≡ length ns) × (q ≡ n))
at_cases [] n zero q h = inr (refl, cc)
at_cases [] n (suc k) q h = absurd cc
at_cases (x ∷ ns) n zero q h = inl h
at_cases (x ∷ ns) n (suc k) q h = elim (at_cases ns n k q h) [
  | inl i ↦ inl i
  | inr e ↦ inr (ap suc e.0, e.1)
]

pub taken : (k : ℕ) (all : List (List ℕ)) (r : List ℕ) → k < length all → r ≡ get_or all k r → take (suc k) all ≡ take k all ++ (r ∷ [])
taken k [] r l e = absurd (omega arith)
taken zero (x ∷ all) r l e = ap (λ (z : List ℕ). z ∷ []) (sym e)
taken (suc k) (x ∷ all) r l e = ap (λ ns. x ∷ ns) (taken k all r (omega arith) e)

pub taken_length : (k : ℕ) (all : List (List ℕ)) → k < length all → length (take k all) ≡ k
taken_length k [] l = absurd (omega arith)
taken_length zero (x ∷ all) l = refl
taken_length (suc k) (x ∷ all) l = ap suc (taken_length k all (omega arith))

taken_at : (k : ℕ) (all : List (List ℕ)) (j : ℕ) (n : List ℕ) → IsAt (take k all) j n → (j < k) × IsAt all j n
taken_at zero all j n h = absurd cc
taken_at (suc k) [] j n h = absurd cc
taken_at (suc k) (x ∷ all) zero n h = (omega arith, h)
taken_at (suc k) (x ∷ all) (suc j) n h = let i = taken_at k all j n h in (omega arith, i.1)

row_at : (k : ℕ) (all : List (List ℕ)) (r : List ℕ) → k < length all → r ≡ get_or all k r → IsAt all k r
row_at k [] r l e = absurd (omega arith)
row_at zero (x ∷ all) r l e = ap (λ (z : List ℕ). Some z) (sym e)
row_at (suc k) (x ∷ all) r l e = row_at k all r (omega arith) e

-- ---- the index

same_name : (name : List ℕ) → eq_by_cmp (slice_cmp nat_cmp) name name ≡ true
same_name name = (eq_by_cmp_equiv nat_list_cmp_total).refl name

antisymmetric : IsAntisymmetric (slice_cmp nat_cmp)
antisymmetric = slice_cmp-IsAntisymmetric nat_cmp-IsAntisymmetric

is_name : (n q : List ℕ) → eq_by_cmp (slice_cmp nat_cmp) n q ≡ true → n ≡ q
is_name n q e = antisymmetric n q ((Equal-is (slice_cmp nat_cmp n q)).0 e)

-- one more name behind
pub more :
    (old new : BTreeMap (List ℕ) ℕ) (ns : List (List ℕ)) (n : List ℕ) → IsIndex old ns → get_by (slice_cmp nat_cmp n) old ≡ None
    → Updates (slice_cmp nat_cmp) old new n (Some (length ns)) → IsIndex new (ns ++ (n ∷ []))
more old new ns n h a u q k = go (eq_by_cmp (slice_cmp nat_cmp) n q) refl
  where
    go : (b : Bool) → eq_by_cmp (slice_cmp nat_cmp) n q ≡ b → (get_by (slice_cmp nat_cmp q) new ≡ Some k → IsAt (ns ++ (n ∷ [])) k q) × (IsAt (ns ++ (n ∷ [])) k q → get_by (slice_cmp nat_cmp q) new ≡ Some k)
    go true e =
        let s : n ≡ q = is_name n q e in
        let f : get_by (slice_cmp nat_cmp q) new ≡ Some (length ns) = u.0 q ∙ ap (λ b. cond b (Some (length ns)) (get_by (slice_cmp nat_cmp q) old)) e in (
          (λ g. let l : length ns ≡ k = cc in subst (λ (z : ℕ). IsAt (ns ++ (n ∷ [])) z q) l (subst (λ (z : List ℕ). IsAt (ns ++ (n ∷ [])) (length ns) z) s (at_end ns n))),
          (λ g. elim (at_cases ns n k q g) [
            | inl i ↦ absurd (let w : get_by (slice_cmp nat_cmp q) old ≡ Some k = (h q k).1 i in let v : get_by (slice_cmp nat_cmp q) old ≡ None = subst (λ (z : List ℕ). get_by (slice_cmp nat_cmp z) old ≡ None) s a in cc)
            | inr i ↦ f ∙ ap Some (sym i.0)
          ]),
        )
    go false e =
        let f : get_by (slice_cmp nat_cmp q) new ≡ get_by (slice_cmp nat_cmp q) old = u.0 q ∙ ap (λ b. cond b (Some (length ns)) (get_by (slice_cmp nat_cmp q) old)) e in (
          (λ g. at_left ns n k q ((h q k).0 (sym f ∙ g))),
          (λ g. elim (at_cases ns n k q g) [
            | inl i ↦ f ∙ (h q k).1 i
            | inr i ↦ absurd (let w : eq_by_cmp (slice_cmp nat_cmp) n q ≡ true = subst (λ (z : List ℕ). eq_by_cmp (slice_cmp nat_cmp) n z ≡ true) (sym i.1) (same_name n) in cc)
          ]),
        )

-- a name that was found stands before
pub repeated :
    (index : BTreeMap (List ℕ) ℕ) (k : ℕ) (all : List (List ℕ)) (r : List ℕ) (j : ℕ) → IsIndex index (take k all)
    → k < length all → r ≡ get_or all k r → get_by (slice_cmp nat_cmp r) index ≡ Some j → IsRepeated all k
repeated index k all r j h l e f =
    let i = taken_at k all j r ((h r j).0 f) in
    record { before = j; name = r; is_before = i.0; there = row_at k all r l e; and_there = i.1 }

-- what an index finds stands at one place
-- the index after one more row
pub one_more :
    (old new : BTreeMap (List ℕ) ℕ) (k : ℕ) (all : List (List ℕ)) (r : List ℕ) → IsIndex old (take k all) → k < length all
    → r ≡ get_or all k r → get_by (slice_cmp nat_cmp r) old ≡ None → Updates (slice_cmp nat_cmp) old new r (Some k)
    → IsIndex new (take (k + 1) all)
one_more old new k all r h l e a u =
    let s : k + 1 ≡ suc k = omega arith in
    let t : length (take k all) ≡ k = taken_length k all l in
    let v : Updates (slice_cmp nat_cmp) old new r (Some (length (take k all))) =
    subst (λ (z : ℕ). Updates (slice_cmp nat_cmp) old new r (Some z)) (sym t) u in
    subst (λ (z : ℕ). IsIndex new (take z all)) (sym s)
    (subst (λ (ns : List (List ℕ)). IsIndex new ns) (sym (taken k all r l e)) (more old new (take k all) r h a v))

pub once : (index : BTreeMap (List ℕ) ℕ) (ns : List (List ℕ)) → IsIndex index ns → AreOnce ns
once index ns h i j n f g = let a = (h n i).1 f in let b = (h n j).1 g in cc

take_all : (all : List (List ℕ)) → take (length all) all ≡ all
take_all [] = refl
take_all (x ∷ all) = ap (λ ns. x ∷ ns) (take_all all)

-- the index at the end
pub once_all : (index : BTreeMap (List ℕ) ℕ) (all : List (List ℕ)) (k : ℕ) → IsIndex index (take k all) → k ≡ length all → AreOnce all
once_all index all k h e = subst (λ (ns : List (List ℕ)). AreOnce ns) (ap (λ (z : ℕ). take z all) e ∙ take_all all) (once index (take k all) h)

-- a name that stands twice isn't once
pub not_once : (all : List (List ℕ)) (k : ℕ) → IsRepeated all k → AreOnce all → ⊥
not_once all k r o = let e : r.before ≡ k = o r.before k r.name r.and_there r.there in let l = r.is_before in absurd (omega arith)
