-- The types of an array's elements.
use Rattle.std.specs.Prelude.{List, [], ◌∷◌, ◌++◌, map, Option, None, Some}
use Rattle.std.specs.Borrow.{Bor}
use Rattle.limbo_types.specs.Types.{Ty}
use Rattle.limbo_types.specs.View.{view_ty}
use Rattle.limbo_typed.specs.declared.expr.TExpr as code_expr
use Rattle.limbo_typed.specs.declared.expr.Item as code_item

abbrev pub rest_types : Option (Bor code_expr.TExpr) → List Ty
rest_types None = []
rest_types (Some e) = view_ty e.now.ty ∷ []

-- those that have an index, and then the one that stands at each other index
abbrev pub item_types : List code_item.Item → Option (Bor code_expr.TExpr) → List Ty
item_types is rest = map (λ (i : code_item.Item). view_ty i.value.ty) is ++ rest_types rest
