use Rattle.std.proofs.Common.{ap, ◌∙◌}
use Rattle.limbo_typed.specs.declared.stmt.TStmt as code_stmt
use Rattle.limbo_typed.specs.View.{view_stmt}
use Rattle.limbo_stmt_values.specs.limbo_stating.Functions.{body_of}
use Rattle.limbo_stmt_values.proofs.Told.{if_ok}
use Rattle.limbo_functions.proofs.Statements.{one_alone}
use Rattle.limbo_functions.proofs.answering.statements_of.Goals as goal

pub returns-in_default : goal.returns-in_default
returns-in_default c =
    if_ok c.alone.result _ _
    (λ zs h. h ∙ one_alone c.into_inner.result c.in_default.not-Block
    ∙ ap (λ (s : code_stmt.TStmt). body_of (view_stmt s)) c.into_inner.ensures)
    c.alone.ensures
