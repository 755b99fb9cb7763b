-- A member's number leads to the function that has the name.
use Rattle.std.proofs.Common.{◌≡◌, ◌≤◌, ◌-◌, ◌+◌, ◌∷◌, [], ℕ, zero, suc, Bool, true, false, cond, List, Option, Some, None, length, take}
use Rattle.std.proofs.Common.{slice_get, count_by, refl, sym, ap, subst, ◌∙◌, arith}
use Rattle.std.specs.List.{sum_by}
use Rattle.std.proofs.lemmas.List.Sums.{sum_by-cons}
use Rattle.limbo_entries.specs.Entries.{Entry}
use Rattle.limbo_meanings.specs.declared.kind.Kind.TheVariants as kind
use Rattle.limbo_meanings.specs.Kinds.{has_kind}
use Rattle.limbo_meanings.specs.Listed.{Listed, none_left, one_told, none_told}
use Rattle.limbo_meanings.proofs.Lists.{listed_at}
use Rattle.limbo_meanings.proofs.Numbered.{number_is}
use Rattle.limbo_exports.specs.Exports.{is_called, many_called}
use Rattle.limbo_exports.proofs.Numbers.{function_is, print_is}
use Rattle.limbo_outline_members.specs.Members.{IsSignature, IsInterface}
use Rattle.limbo_outline_members.specs.Laws.{InterfaceOfNumber, SignatureOfNumber, PrintOfNumber}

pub interface_of : InterfaceOfNumber
interface_of es m k n system e xs are at h =
    let p = number_is es m k e kind.Module n h in
    let r = listed_at (has_kind es m 4) (IsInterface es m system) es xs k e are at p.0 in
    (r.0, ap (λ z. slice_get xs z) (sym p.1) ∙ r.1, r.2)

pub signature_of : SignatureOfNumber
signature_of es m k n a system e f xs are at w is none h =
    let p = function_is es m k n system e f is none h in
    let t : is_called system (Some a) e ≡ true = subst (λ (z : Option ℕ). is_called system z e ≡ true) w p.0 in
    let c : count_by (is_called system (Some a)) (take k es) ≡ n = subst (λ (z : Option ℕ). count_by (is_called system z) (take k es) ≡ n)
    w p.1 in
    let r = listed_at (is_called system (Some a)) (IsSignature es m) es xs k e are at t in
    (r.0, ap (λ z. slice_get xs z) (sym c) ∙ r.1, r.2)

-- ---- how many are listed

module _ {A : Type 0} (test : Entry → Bool) (is : ℕ → Entry → A → Type 0) where
  counts : (x : Entry) (xs : List Entry) (n : ℕ) → cond (test x) 1 0 ≡ n → count_by test (x ∷ xs) ≡ n + count_by test xs
  counts x xs n h =
      let f : sum_by (λ y. cond (test y) 1 0) (x ∷ xs) ≡ cond (test x) 1 0 + sum_by (λ y. cond (test y) 1 0) xs = sum_by-cons (λ y. cond
      (test y) 1 0) x xs in
      f ∙ ap (λ z. z + sum_by (λ y. cond (test y) 1 0) xs) h

  yes : (x : Entry) → test x ≡ true → ◌≡◌ {A = ℕ} (cond (test x) 1 0) 1
  yes x h = ap (λ (b : Bool). let r : ℕ = cond b 1 0 in r) h

  no : (x : Entry) → test x ≡ false → ◌≡◌ {A = ℕ} (cond (test x) 1 0) 0
  no x h = ap (λ (b : Bool). let r : ℕ = cond b 1 0 in r) h

  many : (k : ℕ) (es : List Entry) (xs : List A) → Listed test is k es xs → count_by test es ≡ length xs
  many _ _ _ (none_left k) = refl
  many _ _ _ (one_told k e a es xs t h rest) =
      let n : count_by test (e ∷ es) ≡ 1 + count_by test es = counts e es 1 (yes e t) in
      let i : count_by test es ≡ length xs = many (suc k) es xs rest in
      n ∙ ap (λ z. 1 + z) i ∙ one_more_is (length xs)
    where
      one_more_is : (n : ℕ) → 1 + n ≡ suc n
      one_more_is n = omega arith
  many _ _ _ (none_told k e es xs t rest) =
      let n : count_by test (e ∷ es) ≡ 0 + count_by test es = counts e es 0 (no e t) in
      let i : count_by test es ≡ length xs = many (suc k) es xs rest in
      n ∙ none_more_is (count_by test es) ∙ i
    where
      none_more_is : (n : ℕ) → 0 + n ≡ n
      none_more_is n = omega arith

past : {A : Type 0} → (xs : List A) (n : ℕ) → length xs ≤ n → slice_get xs n ≡ None
past [] n l = refl
past (x ∷ xs) zero l = absurd (omega arith)
past (x ∷ xs) (suc n) l = past xs n (omega arith)

pub print_of : PrintOfNumber
print_of es m k n a p system e f xs are at w is some h =
    let r = print_is es m k n p system e f is some h in
    let c : many_called system e.within es ≡ length xs =
    ap (λ (z : Option ℕ). many_called system z es) w ∙ many (is_called system (Some a)) (IsSignature es m) 0 es xs are in
    let l : many_called system e.within es ≤ n = r.0 in
    let d : n - many_called system e.within es ≡ p = r.1 in
    (past xs n (subst (λ z. z ≤ n) c l), subst (λ z. n - z ≡ p) c d)
