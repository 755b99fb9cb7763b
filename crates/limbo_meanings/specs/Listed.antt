-- What is told of the declarations of a kind, in order.
use Rattle.std.specs.Prelude.{◌≡◌, ℕ, suc, Bool, true, false, List, [], ◌∷◌}
use Rattle.limbo_entries.specs.Entries.{Entry}

-- Of each declaration for which the test holds one thing is told, of the others nothing. The declarations are those from number k on.
pub data Listed {A : Type 0} (test : Entry → Bool) (is : ℕ → Entry → A → Type 0) : (k : ℕ) → List Entry → List A → Type 0 where
  none_left : (k : ℕ) → Listed test is k [] []
  one_told : (k : ℕ) (e : Entry) (a : A) (es : List Entry) (xs : List A) → test e ≡ true → is k e a → Listed test is (suc k) es xs
      → Listed test is k (e ∷ es) (a ∷ xs)
  none_told : (k : ℕ) (e : Entry) (es : List Entry) (xs : List A) → test e ≡ false → Listed test is (suc k) es xs
      → Listed test is k (e ∷ es) xs
