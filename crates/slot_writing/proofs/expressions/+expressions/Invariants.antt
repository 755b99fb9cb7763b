use Rattle.std.proofs.Common.{◌*◌, ◌+◌}
use Rattle.limbo_typed.specs.View.{view_exprs}
use Rattle.typed_meaning.specs.Program.{terms_of}
use Rattle.slot_writing.specs.Terms.{view_term, arguments}
use Rattle.slot_writing.specs.Weights.{weight, weights}
use Rattle.slot_writing.proofs.expressions.+expressions.Given as goal

abbrev pub decreases-emit_value : goal.decreases-emit_value
decreases-emit_value l = weight (view_term l.term) * 8

abbrev pub decreases-emit_ready : goal.decreases-emit_ready
decreases-emit_ready l = weight (view_term l.term) * 8 + 1

abbrev pub decreases-emit_operands : goal.decreases-emit_operands
decreases-emit_operands l = (weight (view_term l.left) + weight (view_term l.right)) * 8 + 2

abbrev pub decreases-emit_altered : goal.decreases-emit_altered
decreases-emit_altered l = weight (view_term l.term) * 8 + 2

abbrev pub decreases-emit_operated : goal.decreases-emit_operated
decreases-emit_operated l = (weight (view_term l.left) + weight (view_term l.right)) * 8 + 3

abbrev pub decreases-emit_applied : goal.decreases-emit_applied
decreases-emit_applied l = weights (terms_of (view_exprs l.args.now)) * 8 + 4

abbrev pub decreases-emit_connected : goal.decreases-emit_connected
decreases-emit_connected l = (weight (view_term l.left) + weight (view_term l.right)) * 8 + 5

abbrev pub decreases-emit_branches : goal.decreases-emit_branches
decreases-emit_branches l = weight (view_term l.term) * 8 + 3

abbrev pub decreases-emit_rest : goal.decreases-emit_rest
decreases-emit_rest l = weights (arguments l.taker (view_exprs l.args.now)) * 8 + 1

abbrev pub decreases-emit_first : goal.decreases-emit_first
decreases-emit_first l = weight (view_term l.term) * 8 + 1

abbrev pub decreases-emit_arguments : goal.decreases-emit_arguments
decreases-emit_arguments l = weights (arguments l.taker (view_exprs l.args.now)) * 8 + 2
