-- Two strings that aren't too long together.
use Rattle.std.proofs.Common.{◌≡◌, ℕ, List, ◌++◌, length, Ok, ap}
use Rattle.inf_text.specs.Steps.{◌>>=◌}
use Rattle.limbo_values.specs.Texts.{joined, joined_count}

pub joined_is : (s t : List ℕ) (n : ℕ) → joined_count (length s) (length t) ≡ Ok n → joined s t ≡ Ok (s ++ t)
joined_is s t n e = ap (λ r. r >>= λ _. Ok (s ++ t)) e
