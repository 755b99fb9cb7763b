-- What holds of the table of operators before one operand.
use Rattle.std.specs.Prelude.{◌≡◌, List, [], ◌∷◌}
use Rattle.limbo_types.specs.Types.{Ty}
use Rattle.limbo_layout.specs.Adts.{Def}
use Rattle.limbo_tree.specs.declared.operators.UnaryOp.{UnaryOp}
use Rattle.limbo_typed.specs.Fitting.{Gives}
use Rattle.limbo_prefixes.specs.Rows.{OneRow, UnaryRow, BytesRow}

-- For an operator and an operand of a given type the table has one row at most.
abbrev pub OneUnaryRow : Type 0
OneUnaryRow = (defs : List Def) (o : UnaryOp) (t : Ty) (r s : OneRow) → UnaryRow defs o t r → UnaryRow defs o t s → r ≡ s

-- An operand of the type that is asked fits the row's operation, which gives a value of the row's type.
abbrev pub UnaryGives : Type 0
UnaryGives = (defs : List Def) (o : UnaryOp) (t : Ty) (r : OneRow) → UnaryRow defs o t r
    → Gives defs r.operation (r.operand ∷ []) r.result

abbrev pub BytesGive : Type 0
BytesGive = (defs : List Def) (t : Ty) (r : OneRow) → BytesRow t r → Gives defs r.operation (r.operand ∷ []) r.result
