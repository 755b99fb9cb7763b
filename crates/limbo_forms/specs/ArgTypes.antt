-- The types of arguments.
use Rattle.std.specs.Prelude.{List, map}
use Rattle.limbo_types.specs.Types.{Ty}
use Rattle.limbo_types.specs.View.{view_ty}
use Rattle.limbo_typed.specs.declared.expr.TExpr as code_expr

abbrev pub arg_types : List code_expr.TExpr → List Ty
arg_types es = map (λ e. view_ty e.ty) es
