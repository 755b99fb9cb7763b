-- What holds of the table of operators between two operands.
use Rattle.std.specs.Prelude.{◌≡◌, List, [], ◌∷◌}
use Rattle.limbo_types.specs.Types.{Ty}
use Rattle.limbo_typed.specs.limbo_layout.Adts.{Def}
use Rattle.limbo_typed.specs.Fitting.{Gives}
use Rattle.limbo_typed.specs.Sound.{IsSettled}
use Rattle.limbo_operators.specs.declared.signs.Binary.{Binary}
use Rattle.limbo_operators.specs.Rows.{Row, BinaryRow}

-- For an operator and operands of given types the table has one row at most.
abbrev pub OneBinaryRow : Type 0
OneBinaryRow = (sign : Binary) (t u : Ty) (r s : Row) → BinaryRow sign t u r → BinaryRow sign t u s → r ≡ s

-- Operands of the types that are asked fit the row's operation, which gives a value of the row's type, once that isn't open.
abbrev pub BinaryGives : Type 0
BinaryGives = (defs : List Def) (sign : Binary) (t u : Ty) (r : Row) → BinaryRow sign t u r → IsSettled r.result
    → Gives defs r.operation (r.left ∷ r.right ∷ []) r.result
