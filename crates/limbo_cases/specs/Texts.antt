-- Labels that are strings (Limbo Language Reference, case statement): the language compares strings by the codes of their characters.
use Rattle.std.specs.Prelude.{ℕ, List, IsTrue}
use Rattle.std.specs.Borrow.{Bor}
use Rattle.limbo_values.specs.declared.operator.Comparison.TheVariants as comparison
use Rattle.limbo_values.specs.Texts.{text_compared}
use Rattle.limbo_cases.specs.declared.label.Label.{Label}

-- `s <= t`
abbrev pub TextAtMost : List ℕ → List ℕ → Type 0
TextAtMost s t = IsTrue (text_compared comparison.AtMost s t)

-- A label of the code, whose ends are references.
abbrev pub text_label : Label (Bor (List ℕ)) → Label (List ℕ)
text_label label = record { low = label.low.now; high = label.high.now }
