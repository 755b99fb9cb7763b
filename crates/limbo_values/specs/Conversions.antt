-- What conversions give (Limbo Language Reference, conversions). Between numbers a conversion wraps: `byte e`, `int e` and
-- `big e` are `wrapped`.
use Rattle.std.specs.Prelude.{ℕ, ℤ, pos, neg_ℤ, ◌==◌, if◌then◌else◌, List, [], ◌∷◌}
use Rattle.std.specs.Fmt.{signed_decimal}
use Rattle.inf_text.specs.InFront.{behind_blanks, number_after}
use Rattle.limbo_values.specs.declared.number.Kind.{Kind}
use Rattle.limbo_values.specs.Numbers.{wrapped}

-- `string e` of a number: a minus sign where it is below 0, and its digits without leading zeros
abbrev pub number_text : ℤ → List ℕ
number_text z = signed_decimal z

-- one sign, if it is there, and the digits behind it
abbrev pub signed_digits : List ℕ → ℤ
signed_digits [] = pos 0
signed_digits (c ∷ cs) =
    if c == 45 then neg_ℤ (pos (number_after 0 cs)) else (if c == 43 then pos (number_after 0 cs) else pos (number_after 0 (c ∷ cs)))

-- The number at the front of a text: blanks are skipped, then one sign may stand, then decimal digits. It is 0 where there
-- is no digit, and what follows doesn't count.
abbrev pub number_in : List ℕ → ℤ
number_in text = signed_digits (behind_blanks text)

-- `int s` and `big s`: that number, wrapped
abbrev pub number_read : Kind → List ℕ → ℤ
number_read kind text = wrapped kind (number_in text)
