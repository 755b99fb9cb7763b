use Rattle.limbo_tree.specs.View as source
use Rattle.limbo_context.specs.View.{view_context, view_body}
use Rattle.limbo_heads.proofs.Naming.{of_handler}
use Rattle.limbo_heads.proofs.Rows.{Gone}
use Rattle.limbo_heads.proofs.handling.all_handled.Given as goal

abbrev pub invariant-loop-pattern : goal.invariant-loop-pattern
invariant-loop-pattern l =
    Gone (of_handler (view_context l.context) (view_body l.body)) source.view_handler_pattern tt tt l.patterns l.pattern-index l.zs.items
