use Rattle.std.proofs.Common.{◌*◌, ◌+◌, []}
use Rattle.limbo_typed.specs.View.{view_expr}
use Rattle.core_frames.specs.Sizes.{expr_size}
use Rattle.core_writing.proofs.types.+types.Given as goal

abbrev pub decreases-type_of : goal.decreases-type_of
decreases-type_of l = expr_size [] (view_expr l.e.now) * 8 + 2

abbrev pub decreases-assigned_type : goal.decreases-assigned_type
decreases-assigned_type l = expr_size [] (view_expr l.e.now) * 8 + 1

abbrev pub decreases-operand_type : goal.decreases-operand_type
decreases-operand_type l = expr_size [] (view_expr l.operand.expr.now) * 8 + 4

abbrev pub decreases-printed_type : goal.decreases-printed_type
decreases-printed_type l = expr_size [] (view_expr l.e.now) * 8 + 3
