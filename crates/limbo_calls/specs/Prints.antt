-- Prints with literal formats (Inferno manual, sys-print(2)), as they are made of typed parts.
use Rattle.std.specs.Prelude.{ℕ, ◌≡◌, List, [], ◌∷◌, Option, None, Some}
use Rattle.limbo_types.specs.Types.{RefAdt}
use Rattle.limbo_typed.specs.declared.print.Printed.{Printed}
use Rattle.limbo_typed.specs.declared.print.Printed.TheVariants as printed
use Rattle.limbo_typed.specs.declared.print.Piece.{Piece}
use Rattle.limbo_typed.specs.Typed as tree
use Rattle.limbo_typed.specs.Typed.{Expr, Of, Exprs, Optional, Absent, Present}
use Rattle.limbo_typed.specs.Sound.{types_of, holes, printed_type}
use Rattle.limbo_formats.specs.declared.format.FormatPart.{FormatPart}
use Rattle.limbo_formats.specs.Formats.{IsFormat, Fits}
use Rattle.limbo_arguments.specs.limbo_standing.Standing.{Settles, SettleEach}

-- what an option has, as a list
abbrev pub listed_option : {A : Type 0} → Option A → List A
listed_option None = []
listed_option (Some a) = a ∷ []

-- What is printed to: with `print` the standard output, with `fprint` a file, with `sprint` nothing.
pub data Output : Type 0 where
  Print : Output
  Fprint : Expr → Output
  Sprint : Output

-- What is called then, and its file, which is a `ref` of the adt `FD` of this number.
abbrev pub PrintsTo : Output → (fd : Option ℕ) → Printed → (file : Optional) → Type 0
PrintsTo Print fd which file = (which ≡ printed.Print) × (file ≡ Absent)
PrintsTo (Fprint e) fd which file =
    (which ≡ printed.Fprint) × (n : ℕ) × (f : Expr) × (fd ≡ Some n) × Settles (RefAdt n) e f × (file ≡ Present f)
PrintsTo Sprint fd which file = (which ≡ printed.Sprint) × (file ≡ Absent)

-- A text is a format, these arguments fit it, and each is what it is where the type is asked for that its piece of the format takes.
pub record Formats (text : List ℕ) (args : Exprs) (pieces : List Piece) (values : Exprs) : Type 0 where
  pub parts : List FormatPart
  pub format : IsFormat text parts
  pub fits : Fits parts (types_of args) pieces
  pub arguments : SettleEach (holes pieces) args values

-- `print`, `fprint` and `sprint` through a value of `Sys`.
pub record Prints (fd : Option ℕ) (output : Output) (instance : Expr) (text : List ℕ) (args : Exprs) (e : Expr) : Type 0 where
  pub which : Printed
  pub file : Optional
  pub to : PrintsTo output fd which file
  pub pieces : List Piece
  pub values : Exprs
  pub formats : Formats text args pieces values
  pub gives : e ≡ Of (printed_type which) (tree.Print which instance file pieces values)
