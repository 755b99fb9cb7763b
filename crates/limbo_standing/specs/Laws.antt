-- What holds of the types of literals, and of a value where a type is asked for.
use Rattle.std.specs.Prelude.{◌≡◌, List}
use Rattle.limbo_types.specs.Types.{Ty}
use Rattle.limbo_typed.specs.Typed.{Expr}
use Rattle.limbo_typed.specs.Fitting.{Stands}
use Rattle.limbo_typed.specs.Sound.{type_of}
use Rattle.limbo_standing.specs.Joining.{Joins}
use Rattle.limbo_standing.specs.Standing.{Settles}

-- The elements of a literal have one type at most.
abbrev pub OneType : Type 0
OneType = (ts : List Ty) (t u : Ty) → Joins ts t → Joins ts u → t ≡ u

-- Where a type is asked for, a value is one tree at most. That tree has a type that stands there, and where the type that is asked for is
-- the value's own, it is the value as it is.
abbrev pub OneSettled : Type 0
OneSettled = (t : Ty) (e f g : Expr) → Settles t e f → Settles t e g → f ≡ g

abbrev pub SettledStands : Type 0
SettledStands = (t : Ty) (e f : Expr) → Settles t e f → Stands (type_of f) t

abbrev pub SettledAsItIs : Type 0
SettledAsItIs = (e f : Expr) → Settles (type_of e) e f → f ≡ e
