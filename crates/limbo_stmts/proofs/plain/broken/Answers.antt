use Rattle.std.proofs.Common.{List}
use Rattle.limbo_tree.specs.View as source
use Rattle.limbo_stmts.proofs.plain.broken.Goals as goal
use Rattle.std.proofs.Common.{subst, map}
use Rattle.limbo_refusals.specs.Refusals.{NoneIs}
use Rattle.limbo_stmt_values.specs.limbo_stating.Around.{Innermost, IsLabelled}
use Rattle.limbo_heads.specs.declared.around.Turn as code_turn
use Rattle.limbo_heads.specs.Around.{view_turn}
use Rattle.limbo_stmt_values.specs.limbo_stating.FailsToState as fails
use Rattle.limbo_stmt_values.specs.limbo_stating.FailsToState.{FailsToState}

pub returns-in-None-clause-refused : goal.returns-in-None-clause-refused
returns-in-None-clause-refused c =
    fails.breaks_nothing _ _ _ (subst (λ (ts : List code_turn.Turn). NoneIs (Innermost (map view_turn ts) (IsLabelled (source.name_of
    c.args.label.now)))) c.deref.ensures.value c.in-None.ensures.none)
