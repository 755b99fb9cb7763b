-- The rows of the code, without how types lie in memory.
use Rattle.limbo_types.specs.View.{view_ty}
use Rattle.limbo_operators.specs.declared.rows.Row as code_row
use Rattle.limbo_operators.specs.Rows.{Row}

abbrev pub view_row : code_row.Row → Row
view_row r = record { left = view_ty r.left; right = view_ty r.right; operation = r.operation; result = view_ty r.result }
