use Rattle.limbo_stmts.proofs.plain.return_nothing.Goals as goal
use Rattle.std.proofs.Common.{◌∙◌, sym}
use Rattle.std.proofs.lemmas.Bool.{false≢true}
use Rattle.limbo_types.proofs.View.{view_ty-Nothing}
use Rattle.limbo_stmt_values.specs.limbo_stating.FailsToState as fails
use Rattle.limbo_stmt_values.specs.limbo_stating.FailsToState.{FailsToState}

pub returns-else-equal-clause-refused : goal.returns-else-equal-clause-refused
returns-else-equal-clause-refused c =
    fails.returns_nothing _ _ (λ e. false≢true (c.if-equal.ensures.1 (e ∙ sym view_ty-Nothing)))
