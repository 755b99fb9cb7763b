-- What is told of declarations one after the other holds of each item that is told.
use Rattle.std.proofs.Common.{ℕ, suc, Bool, List}
use Rattle.limbo_entries.specs.Entries.{Entry}
use Rattle.limbo_meanings.specs.Listed.{Listed, none_left, one_told, none_told}
use Rattle.limbo_typed.specs.Sound.{Each}

module _ {A : Type 0} (test : Entry → Bool) (is : ℕ → Entry → A → Type 0) (P : A → Type 0)
    (holds : (k : ℕ) (e : Entry) (a : A) → is k e a → P a) where
  pub listed_each : (k : ℕ) (es : List Entry) (xs : List A) → Listed test is k es xs → Each P xs
  listed_each _ _ _ (none_left k) = tt
  listed_each _ _ _ (one_told k e a es xs t h rest) = (holds k e a h, listed_each (suc k) es xs rest)
  listed_each _ _ _ (none_told k e es xs t rest) = listed_each (suc k) es xs rest
