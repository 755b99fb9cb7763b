use Rattle.std.proofs.Common.{◌≡◌, ◌+◌, ◌*◌, drop}
use Rattle.limbo_typed.specs.View.{view_exprs}
use Rattle.limbo_typed.proofs.expr.TExpr.TheLaws.{the_size}
use Rattle.limbo_typed.proofs.expr.TNode.TheLaws.{the_size as node_size}
use Rattle.typed_lower.specs.Sizes.{exprs_size}
use Rattle.slot_writing.proofs.sizes.+sizes.Given as goal
use denote.Param.Weighed.{most}

abbrev pub decreases-expr_leaves : goal.decreases-expr_leaves
decreases-expr_leaves l = the_size l.e.now * 8

abbrev pub decreases-node_leaves : goal.decreases-node_leaves
decreases-node_leaves l = node_size l.node.now * 8 + 1

abbrev pub decreases-exprs_leave : goal.decreases-exprs_leave
decreases-exprs_leave l = most the_size l.es.now * 8 + 1

abbrev pub invariant-exprs_leave-loop-e : goal.invariant-exprs_leave-loop-e
invariant-exprs_leave-loop-e l = l.rest + exprs_size (view_exprs l.es) ≡ l.budget + exprs_size (view_exprs (drop l.e-index l.es))
