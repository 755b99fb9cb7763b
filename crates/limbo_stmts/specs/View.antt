-- Where the checking has come to, without how it lies in memory.
use Rattle.limbo_context.specs.View.{view_context, view_body}
use Rattle.limbo_stmt_values.specs.limbo_local.Points.{Point}
use Rattle.limbo_stmts.specs.declared.point.Point as code_point

abbrev pub view_point : code_point.Point → Point
view_point p = record { context = view_context p.context; body = view_body p.body; catches = p.catches }
