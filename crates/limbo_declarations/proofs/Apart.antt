-- Names that are in no other list.
use Rattle.std.proofs.Common.{◌≡◌, ◌<◌, ◌+◌, ◌⊎◌, inl, inr, ℕ, zero, suc, List, [], ◌∷◌, ◌++◌, length, map, drop, get_or, Some, None, refl, sym, ap, subst, ◌∙◌, arith}
use Rattle.std.specs.Borrow.{Bor}
use Rattle.std.specs.Ordering.{nat_cmp}
use Rattle.std.specs.Cmp.Lexicographic.{slice_cmp}
use Rattle.std.specs.BTreeMap.{BTreeMap, get_by}
use Rattle.std.proofs.lemmas.Option.{slice_get_within}
use Rattle.std.proofs.lemmas.List.{length-map}
use Rattle.limbo_tree.specs.declared.name.Name as code_name
use Rattle.limbo_declarations.specs.Names.{IsAt, AreOnce, IsIndex}
use Rattle.limbo_declarations.specs.View.{texts_of}

pub text_at : (k : ℕ) (all : List (Bor code_name.Name)) (x : Bor code_name.Name) → k < length all → x ≡ get_or all k x → IsAt (texts_of all) k x.now.text
text_at k [] x l e = absurd (omega arith)
text_at zero (y ∷ all) x l e = ap (λ (z : Bor code_name.Name). Some z.now.text) (sym e)
text_at (suc k) (y ∷ all) x l e = text_at k all x (omega arith) e

pub text_within : (all : List (Bor code_name.Name)) (k : ℕ) (n : List ℕ) → IsAt (texts_of all) k n → k < length all
text_within all k n h =
    let l = slice_get_within (texts_of all) k n h in
    let m : length (texts_of all) ≡ length all = length-map all (λ x. x.now.text) in
    omega arith

at_or : (n m : ℕ) → n < m + 1 → (n < m) ⊎ (n ≡ m)
at_or n m h = grind arith

-- one name more that the index doesn't find
pub apart_more :
    (index : BTreeMap (List ℕ) ℕ) (ns all : List (List ℕ)) (k : ℕ) (r : List ℕ) → IsIndex index ns → IsAt all k r
    → get_by (slice_cmp nat_cmp r) index ≡ None
    → ((i j : ℕ) (name : List ℕ) → j < k → IsAt ns i name → IsAt all j name → ⊥)
    → (i j : ℕ) (name : List ℕ) → j < k + 1 → IsAt ns i name → IsAt all j name → ⊥
apart_more index ns all k r h t a before i j name l f g = elim (at_or j k l) [
  | inl m ↦ before i j name m f g
  | inr e ↦
      let s : name ≡ r = let u : IsAt all k name = subst (λ (z : ℕ). IsAt all z name) e g in cc in
      let u : get_by (slice_cmp nat_cmp name) index ≡ Some i = (h name i).1 f in
      let v : get_by (slice_cmp nat_cmp name) index ≡ None = subst (λ (z : List ℕ). get_by (slice_cmp nat_cmp z) index ≡ None) (sym s) a in
      absurd cc
]

at_left : (ns ms : List (List ℕ)) (k : ℕ) (q : List ℕ) → IsAt ns k q → IsAt (ns ++ ms) k q
at_left [] ms k q h = absurd cc
at_left (x ∷ ns) ms zero q h = h
at_left (x ∷ ns) ms (suc k) q h = at_left ns ms k q h

-- what is once is so in front
pub front_once : (ns ms : List (List ℕ)) → AreOnce (ns ++ ms) → AreOnce ns
front_once ns ms h i j n f g = h i j n (at_left ns ms i n f) (at_left ns ms j n g)

drop_suc : {A B : Type 0} (f : A → B) (k : ℕ) (xs : List A) (x : A) → k < length xs → x ≡ get_or xs k x → map f (drop k xs) ≡ f x ∷ map f (drop (suc k) xs)
drop_suc f k [] x l e = absurd (omega arith)
drop_suc f zero (y ∷ xs) x l e = ap (λ z. f z ∷ map f xs) (sym e)
drop_suc f (suc k) (y ∷ xs) x l e = drop_suc f k xs x (omega arith) e

-- a list from one place on, by what stands there
pub drop_more : {A B : Type 0} (f : A → B) (k : ℕ) (xs : List A) (x : A) → k < length xs → x ≡ get_or xs k x → map f (drop k xs) ≡ f x ∷ map f (drop (k + 1) xs)
drop_more f k xs x l e = let s : k + 1 ≡ suc k = omega arith in drop_suc f k xs x l e ∙ ap (λ n. f x ∷ map f (drop n xs)) (sym s)

pub none_behind : (ns : List (List ℕ)) → ns ≡ ns ++ []
none_behind [] = refl
none_behind (n ∷ ns) = ap (λ xs. n ∷ xs) (none_behind ns)
