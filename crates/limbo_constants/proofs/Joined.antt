-- Strings that are joined are no longer than one may be.
use Rattle.std.proofs.Common.{◌≡◌, ℕ, ◌+◌, ◌++◌, ◌≤◌, List, length, length-append, Bool, true, false, if◌then◌else◌, Result, Ok, Err, IfOk, refl, sym, subst}
use Rattle.std.specs.Prelude.{nat_le}
use Rattle.std.proofs.lemmas.Bool.{leb-true}
use Rattle.inf_text.specs.Steps.{◌>>=◌}
use Rattle.limbo_values.specs.declared.raised.Raised.{Raised}
use Rattle.limbo_values.specs.declared.raised.Raised.TheVariants.{StringTooLong}
use Rattle.limbo_values.specs.Texts.{longest, joined}

-- joined, by whether they are short enough
abbrev by_length : Bool → List ℕ → List ℕ → Result (List ℕ) Raised
by_length short s t = (if short then Ok (length s + length t) else Err StringTooLong) >>= λ count. Ok (s ++ t)

pub joined_short : (s t : List ℕ) → IfOk (joined s t) (λ text. length text ≤ longest)
joined_short s t = go (nat_le (length s + length t) longest) refl
  where
    go : (b : Bool) → nat_le (length s + length t) longest ≡ b → IfOk (by_length b s t) (λ text. length text ≤ longest)
    go true e = subst (λ n. n ≤ longest) (sym (length-append s t)) (leb-true (length s + length t) longest e)
    go false e = tt
