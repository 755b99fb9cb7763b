-- The labels of a `case` that are numbers, and those that are strings.
use Rattle.std.specs.Prelude.{ℤ, ℕ, List, Option, None, Some}
use Rattle.limbo_typed.specs.declared.stmt.Constant.{Constant}
use Rattle.limbo_typed.specs.declared.stmt.Constant.TheVariants as constant
use Rattle.limbo_typed.specs.declared.stmt.CasePattern.{CasePattern}
use Rattle.limbo_typed.specs.declared.stmt.CasePattern.TheVariants as case
use Rattle.limbo_cases.specs.declared.label.Label.{Label}

-- the number, and the string, that a constant is
abbrev pub number_in : Constant → Option ℤ
number_in (constant.Number n) = Some n
number_in (constant.Chars s) = None

abbrev pub text_in : Constant → Option (List ℕ)
text_in (constant.Number n) = None
text_in (constant.Chars s) = Some s

-- a label with these ends, where both are there
abbrev pub label_of : {A : Type 0} → (low high : Option A) → Option (Label A)
label_of None high = None
label_of (Some a) high = elim high [ None ↦ None | Some b ↦ Some (record { low = a; high = b }) ]

-- the label that a pattern is, where its ends are such
abbrev pub label_in : {A : Type 0} → (Constant → Option A) → CasePattern → Option (Label A)
label_in f (case.One v) = label_of (f v) (f v)
label_in f (case.Range v w) = label_of (f v) (f w)
label_in f case.Any = None
