use Rattle.std.proofs.Common.{None, ◌≡◌}
use Rattle.limbo_tree.specs.Stmts as tree
use Rattle.limbo_stmts.proofs.plain.raise_again.Goals as goal
use Rattle.std.proofs.Common.{subst, sym, ap}
use Rattle.limbo_causes.specs.Causes.{nothing}
use Rattle.limbo_refusals.specs.Refusals.{Clash}
use Rattle.limbo_types.proofs.View.{view_ty-Nothing}
use Rattle.limbo_stmt_values.proofs.Told.{told_alone}
use Rattle.limbo_stmt_values.specs.limbo_stating.FailsToState as fails
use Rattle.limbo_stmt_values.specs.limbo_stating.FailsToState.{FailsToState}
use Rattle.limbo_stmt_values.specs.limbo_stating.Reasons.{ByPart}
use Rattle.limbo_heads.specs.Around.{view_around}
use Rattle.limbo_stmts.specs.View.{view_point}
use Rattle.limbo_stmts.proofs.Told.{by_part}

pub returns-in-None-clause-refused : goal.returns-in-None-clause-refused
returns-in-None-clause-refused c =
    by_part c.part_fault.result.why c.refused.result.cause (λ k. k ≡ nothing) (FailsToState (view_around c.args.around.now) (view_point
    c.args.point.now) (tree.Raise None)) c.part_fault.ensures
    (λ k h. subst (λ z. FailsToState (view_around c.args.around.now) (view_point c.args.point.now) (tree.Raise None) (ByPart z)) (sym h)
    (fails.raises_nothing _ _ c.in-None.is))
    (told_alone c.clash_of.result c.refused.result.cause _ _ c.refused.ensures c.clash_of.ensures (ap (λ t. Clash t t) view_ty-Nothing))
