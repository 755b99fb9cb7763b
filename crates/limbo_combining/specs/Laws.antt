-- What holds of operators on typed operands.
use Rattle.std.specs.Prelude.{◌≡◌, List}
use Rattle.limbo_layout.specs.Adts.{Def}
use Rattle.limbo_tree.specs.declared.operators.BinaryOp.{BinaryOp}
use Rattle.limbo_tree.specs.declared.operators.UnaryOp.{UnaryOp}
use Rattle.limbo_typed.specs.Typed.{Expr}
use Rattle.limbo_combining.specs.Combining.{Combines, Operates, BytesOf}

-- Operands are put together to one expression at most.
abbrev pub OneCombined : Type 0
OneCombined = (o : BinaryOp) (l r e f : Expr) → Combines o l r e → Combines o l r f → e ≡ f

abbrev pub OneOperated : Type 0
OneOperated = (defs : List Def) (o : UnaryOp) (e f g : Expr) → Operates defs o e f → Operates defs o e g → f ≡ g

abbrev pub OneBytes : Type 0
OneBytes = (e f g : Expr) → BytesOf e f → BytesOf e g → f ≡ g
