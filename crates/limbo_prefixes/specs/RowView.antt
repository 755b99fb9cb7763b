-- The rows of the code, without how types lie in memory.
use Rattle.limbo_types.specs.View.{view_ty}
use Rattle.limbo_prefixes.specs.declared.rows.OneRow as code_one
use Rattle.limbo_prefixes.specs.Rows.{OneRow}

abbrev pub view_one : code_one.OneRow → OneRow
view_one r = record { operand = view_ty r.operand; operation = r.operation; result = view_ty r.result }
