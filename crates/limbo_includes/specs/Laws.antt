-- What holds of included texts.
use Rattle.std.specs.Prelude.{◌≡◌, ℕ, List}
use Rattle.limbo_tree.specs.declared.source.Top.{Top}
use Rattle.limbo_includes.specs.declared.included.Included.{Included}
use Rattle.limbo_includes.specs.Includes.{Given, Standing, Flattens, IsWhole}

-- A text flattens to one row at most.
abbrev pub OneRow : Type 0
OneRow =
    (included : List Included) (path : List ℕ) (tops : List Top) (a b : List Standing)
    → Flattens included path tops a → Flattens included path tops b → a ≡ b

-- A source whose includes aren't too deep and lack nothing flattens to a row.
abbrev pub WholeHasRow : Type 0
WholeHasRow = (g : Given) → IsWhole g → (row : List Standing) × Flattens g.included g.path g.source row
