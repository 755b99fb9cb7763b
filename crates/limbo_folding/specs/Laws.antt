-- What holds of constants.
use Rattle.std.specs.Prelude.{◌≡◌, List, Some}
use Rattle.limbo_types.specs.Types.{Ty, Int, Chars}
use Rattle.limbo_layout.specs.Adts.{Def}
use Rattle.limbo_typed.specs.declared.stmt.Constant.{Constant}
use Rattle.limbo_typed.specs.Typed as tree
use Rattle.limbo_typed.specs.Typed.{Expr, Of, Node, Apply, Lazy}
use Rattle.limbo_typed.specs.Fitting.{IsNumber, IsConstant, Gives}
use Rattle.limbo_typed.specs.Sound.{type_of, types_of}
use Rattle.limbo_folding.specs.Folding.{value_of}

-- The type of an expression fits its form, as in every sound expression: that of a number has it in its range, that of an operation
-- is what it gives.
abbrev pub FitsNode : List Def → Ty → Node → Type 0
FitsNode defs t (tree.Number n) = IsNumber t n
FitsNode defs t (tree.Chars s) = t ≡ Chars
FitsNode defs t (Apply o es) = Gives defs o (types_of es) t
FitsNode defs t (Lazy c l r) = t ≡ Int
FitsNode defs t _ = Unit {0}

abbrev pub FitsType : List Def → Expr → Type 0
FitsType defs (Of t n) = FitsNode defs t n

-- The constant that such an expression is, if it is one, is a constant of its type: a number in the range, or a string.
abbrev pub InItsRange : Type 0
InItsRange = (defs : List Def) (e : Expr) (v : Constant) → FitsType defs e → value_of e ≡ Some v → IsConstant (type_of e) v
