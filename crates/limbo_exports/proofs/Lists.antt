-- Declarations one after the other: those that a test holds for, and what is told of them.
use Rattle.std.proofs.Common.{◌≡◌, ◌<◌, ◌+◌, ◌++◌, ◌∷◌, [], ℕ, zero, suc, List, Some, Bool, false, length, slice_get, refl, sym, ap}
use Rattle.std.proofs.Common.{subst, ◌∙◌, arith}
use Rattle.limbo_entries.specs.Entries.{Entry, IsEntry}

-- one declaration more for which the test doesn't hold
pub none_more : (test : Entry → Bool) (es : List Entry) (i : ℕ) (e : Entry) → IsEntry es i e → test e ≡ false
    → ((j : ℕ) (f : Entry) → j < i → IsEntry es j f → test f ≡ false) → (j : ℕ) (f : Entry) → j < i + 1 → IsEntry es j f → test f ≡ false
none_more test [] i e at n before j f l h = absurd cc
none_more test (x ∷ es) zero e at n before zero f l h = let p : e ≡ f = cc in subst (λ (z : Entry). test z ≡ false) p n
none_more test (x ∷ es) zero e at n before (suc j) f l h = absurd (omega arith)
none_more test (x ∷ es) (suc i) e at n before zero f l h = before zero f (omega arith) h
none_more test (x ∷ es) (suc i) e at n before (suc j) f l h =
    none_more test es i e at n (λ a b c d. before (suc a) b (omega arith) d) j f (omega arith) h

-- what stands in a list to which one is added
pub appended : {A : Type 0} → (all : List A) (i : ℕ) (y v : A) (k : ℕ) → length all ≡ i → k < i + 1 → (k < i → slice_get all k ≡ Some v)
    → (k ≡ i → y ≡ v) → slice_get (all ++ (y ∷ [])) k ≡ Some v
appended [] i y v zero n l a b = ap Some (b (omega arith))
appended [] i y v (suc k) n l a b = absurd (omega arith)
appended (x ∷ all) zero y v k n l a b = absurd (omega arith)
appended (x ∷ all) (suc i) y v zero n l a b = a (omega arith)
appended (x ∷ all) (suc i) y v (suc k) n l a b = appended all i y v k (omega arith) (omega arith) (λ h. a (omega arith)) (λ h. b (omega
    arith))

pub one_there : {A : Type 0} → (xs : List A) (i k : ℕ) (x y : A) → slice_get xs i ≡ Some x → slice_get xs k ≡ Some y → k ≡ i → x ≡ y
one_there xs i k x y p q h = let r : slice_get xs i ≡ Some y = subst (λ z. slice_get xs z ≡ Some y) h q in cc
