-- The test is true exactly where the types are the same.
use Rattle.std.proofs.Common.{◌≡◌, ℕ, Bool, true, false, ◌==◌, ◌&&◌, IsTrue, ◌↔◌, refl, sym, ap, ◌∙◌, rules, tests}
use Rattle.limbo_types.specs.Types.{Ty, Tys, Byte, Int, Big, Chars, Nothing, Nil, ArrayOf, ListOf, ChanOf, Tuple, Adt, RefAdt, RefPick, Module, NoTys, MoreTys}
use Rattle.limbo_types.specs.Same.{same, all_same}

itself_nat : (n : ℕ) → (n == n) ≡ true
itself_nat n = search (rules, tests)

both_true : {a b : Bool} → a ≡ true → b ≡ true → (a && b) ≡ true
both_true {a} {b} h k = ap (λ a. a && b) h ∙ k

mutual
  pub itself : (t : Ty) → same t t ≡ true
  itself Byte = refl
  itself Int = refl
  itself Big = refl
  itself Chars = refl
  itself Nothing = refl
  itself Nil = refl
  itself (ArrayOf t) = itself t
  itself (ListOf t) = itself t
  itself (ChanOf t) = itself t
  itself (Tuple ts) = all_itself ts
  itself (Adt n) = itself_nat n
  itself (RefAdt n) = itself_nat n
  itself (RefPick n v) = both_true (itself_nat n) (itself_nat v)
  itself (Module n) = itself_nat n

  all_itself : (ts : Tys) → all_same ts ts ≡ true
  all_itself NoTys = refl
  all_itself (MoreTys t ts) = both_true (itself t) (all_itself ts)

left_true : (a b : Bool) → (a && b) ≡ true → a ≡ true
left_true true b h = refl
left_true false b h = h

right_true : (a b : Bool) → (a && b) ≡ true → b ≡ true
right_true true b h = h
right_true false b h = absurd cc

eq_nat : (n m : ℕ) → (n == m) ≡ true → n ≡ m
eq_nat n m h = search (rules, tests, h)

mutual
  pub only : (t u : Ty) → same t u ≡ true → t ≡ u
  only Byte Byte h = refl
  only Int Int h = refl
  only Big Big h = refl
  only Chars Chars h = refl
  only Nothing Nothing h = refl
  only Nil Nil h = refl
  only (ArrayOf t) (ArrayOf u) h = ap ArrayOf (only t u h)
  only (ListOf t) (ListOf u) h = ap ListOf (only t u h)
  only (ChanOf t) (ChanOf u) h = ap ChanOf (only t u h)
  only (Tuple ts) (Tuple us) h = ap Tuple (all_only ts us h)
  only (Adt n) (Adt m) h = ap Adt (eq_nat n m h)
  only (RefAdt n) (RefAdt m) h = ap RefAdt (eq_nat n m h)
  only (RefPick n v) (RefPick m w) h = ap (λ n. RefPick n v) (eq_nat n m (left_true (n == m) (v == w) h)) ∙ ap (λ v. RefPick m v) (eq_nat v w (right_true (n == m) (v == w) h))
  only (Module n) (Module m) h = ap Module (eq_nat n m h)
  only _ _ h = absurd cc

  all_only : (ts us : Tys) → all_same ts us ≡ true → ts ≡ us
  all_only NoTys NoTys h = refl
  all_only NoTys (MoreTys u us) h = absurd cc
  all_only (MoreTys t ts) NoTys h = absurd cc
  all_only (MoreTys t ts) (MoreTys u us) h = ap (λ t. MoreTys t ts) (only t u (left_true (same t u) (all_same ts us) h)) ∙ ap (λ ts. MoreTys u ts) (all_only ts us (right_true (same t u) (all_same ts us) h))

-- a test that answers so tells whether two types are the same
pub decides : (t u : Ty) (r : Bool) → r ≡ same t u → IsTrue r ↔ (t ≡ u)
decides t u r e = (λ h. only t u (sym e ∙ h), λ h. e ∙ ap (λ v. same t v) (sym h) ∙ itself t)
