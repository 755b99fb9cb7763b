use Rattle.std.proofs.Common.{◌≡◌, ◌*◌, ◌+◌, max, drop}
use Rattle.limbo_typed.proofs.expr.TExpr.TheLaws.{the_size}
use Rattle.limbo_typed.proofs.expr.TNode.TheLaws.{the_size as node_size}
use Rattle.limbo_typed.specs.View.{view_exprs}
use Rattle.typed_part.specs.Part.{are_exprs}
use Rattle.typed_part.specs.Seen.{view_inside}
use Rattle.typed_part.proofs.expressions.+expressions.Given as goal
use denote.Param.Weighed.{most}

abbrev pub decreases-is_expr : goal.decreases-is_expr
decreases-is_expr l = the_size l.e.now * 8

abbrev pub decreases-is_node : goal.decreases-is_node
decreases-is_node l = node_size l.node.now * 8 + 1

abbrev pub decreases-are_exprs : goal.decreases-are_exprs
decreases-are_exprs l = most the_size l.es.now * 8 + 1

abbrev pub decreases-is_applied : goal.decreases-is_applied
decreases-is_applied l = most the_size l.args.now * 8 + 2

abbrev pub decreases-is_lazy : goal.decreases-is_lazy
decreases-is_lazy l = max (the_size l.left.now) (the_size l.right.now) * 8 + 1

abbrev pub decreases-is_assigned : goal.decreases-is_assigned
decreases-is_assigned l = the_size l.value.now * 8 + 1

abbrev pub decreases-is_update : goal.decreases-is_update
decreases-is_update l = the_size l.value.now * 8 + 1

abbrev pub decreases-is_call : goal.decreases-is_call
decreases-is_call l = most the_size l.args.now * 8 + 2

abbrev pub decreases-is_print_of : goal.decreases-is_print_of
decreases-is_print_of l = most the_size l.args.now * 8 + 2

abbrev pub invariant-are_exprs-loop-e : goal.invariant-are_exprs-loop-e
invariant-are_exprs-loop-e l =
    are_exprs (view_inside l.inside) (view_exprs (drop l.e-index l.es)) ≡ are_exprs (view_inside l.inside) (view_exprs l.es)
