-- What holds of assignments.
use Rattle.std.specs.Prelude.{◌≡◌}
use Rattle.limbo_typed.specs.Typed.{Expr, Pattern}
use Rattle.limbo_assigning.specs.Assigning.{Assigns, Copies}

-- An assignment gives one expression at most, and so does a copy.
abbrev pub OneAssigned : Type 0
OneAssigned = (p : Pattern) (value e f : Expr) → Assigns p value e → Assigns p value f → e ≡ f

abbrev pub OneCopied : Type 0
OneCopied = (array from value e f : Expr) → Copies array from value e → Copies array from value f → e ≡ f
