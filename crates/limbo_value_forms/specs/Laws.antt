-- What holds of the forms of expressions.
use Rattle.std.specs.Prelude.{◌≡◌}
use Rattle.limbo_tree.specs.Exprs as tree
use Rattle.limbo_typed.specs.Typed.{Expr, Exprs}
use Rattle.limbo_context.specs.Context.{Context}
use Rattle.limbo_value_forms.specs.Forms.{Forms}

-- A form with these values as its parts is one expression at most.
abbrev pub OneForm : Type 0
OneForm = (c : Context) (e : tree.Expr) (xs : Exprs) (y z : Expr) → Forms c e xs y → Forms c e xs z → y ≡ z
