use Rattle.limbo_tree.specs.View as source
use Rattle.limbo_types.specs.View.{view_ty}
use Rattle.limbo_context.specs.View.{view_context, view_body}
use Rattle.limbo_heads.proofs.Naming.{of_case}
use Rattle.limbo_heads.proofs.Rows.{Gone}
use Rattle.limbo_heads.proofs.cases.case_patterns.Given as goal

abbrev pub invariant-loop-pattern : goal.invariant-loop-pattern
invariant-loop-pattern l =
    Gone (of_case (view_ty l.t) (view_context l.context)) source.view_pattern (view_body l.fn.body) (view_body l.body) l.patterns
    l.pattern-index
    l.zs.items
