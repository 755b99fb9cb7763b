-- The bytes of a number in one word.
use Rattle.std.proofs.Common.{◌≡◌, ℕ, ◌%◌, ◌∷◌, [], arith}
use Rattle.std.specs.Int.{to_be_bytes, w32}

four : (a b c d e f g h : ℕ) → a ≡ e → b ≡ f → c ≡ g → d ≡ h → a ∷ b ∷ c ∷ d ∷ [] ≡ e ∷ f ∷ g ∷ h ∷ []
four a b c d e f g h p q r s = λ i. p i ∷ q i ∷ r i ∷ s i ∷ []

-- A word has the low 32 bits.
pub low_bytes : (n : ℕ) → to_be_bytes w32 (n % 4294967296) ≡ to_be_bytes w32 n
low_bytes n = four _ _ _ _ _ _ _ _ (omega arith) (omega arith) (omega arith) (omega arith)
