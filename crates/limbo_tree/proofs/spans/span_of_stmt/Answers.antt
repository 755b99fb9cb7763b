use Rattle.std.proofs.Common.{sym, ap, ◌∙◌}
use Rattle.limbo_tree.specs.Spans.{span_of_stmt}
use Rattle.limbo_tree.proofs.Standing as standing
use Rattle.limbo_tree.proofs.spans.span_of_stmt.Goals as goal

pub returns-in-Empty : goal.returns-in-Empty
returns-in-Empty c = sym (ap span_of_stmt c.in-Empty.is ∙ standing.span_of_stmt-Empty _)

pub returns-in-Block : goal.returns-in-Block
returns-in-Block c = sym (ap span_of_stmt c.in-Block.is ∙ standing.span_of_stmt-Block _ _)

pub returns-in-Declare : goal.returns-in-Declare
returns-in-Declare c = sym (ap span_of_stmt c.in-Declare.is ∙ standing.span_of_stmt-Declare _ _)

pub returns-in-Eval : goal.returns-in-Eval
returns-in-Eval c = sym (ap span_of_stmt c.in-Eval.is ∙ standing.span_of_stmt-Eval _ _)

pub returns-in-If : goal.returns-in-If
returns-in-If c = sym (ap span_of_stmt c.in-If.is ∙ standing.span_of_stmt-If _ _ _ _)

pub returns-in-While : goal.returns-in-While
returns-in-While c = sym (ap span_of_stmt c.in-While.is ∙ standing.span_of_stmt-While _ _ _ _)

pub returns-in-Do : goal.returns-in-Do
returns-in-Do c = sym (ap span_of_stmt c.in-Do.is ∙ standing.span_of_stmt-Do _ _ _ _)

pub returns-in-For : goal.returns-in-For
returns-in-For c = sym (ap span_of_stmt c.in-For.is ∙ standing.span_of_stmt-For _ _ _ _ _ _)

pub returns-in-Case : goal.returns-in-Case
returns-in-Case c = sym (ap span_of_stmt c.in-Case.is ∙ standing.span_of_stmt-Case _ _ _ _)

pub returns-in-Alt : goal.returns-in-Alt
returns-in-Alt c = sym (ap span_of_stmt c.in-Alt.is ∙ standing.span_of_stmt-Alt _ _ _)

pub returns-in-Pick : goal.returns-in-Pick
returns-in-Pick c = sym (ap span_of_stmt c.in-Pick.is ∙ standing.span_of_stmt-Pick _ _ _ _ _)

pub returns-in-Break : goal.returns-in-Break
returns-in-Break c = sym (ap span_of_stmt c.in-Break.is ∙ standing.span_of_stmt-Break _ _)

pub returns-in-Continue : goal.returns-in-Continue
returns-in-Continue c = sym (ap span_of_stmt c.in-Continue.is ∙ standing.span_of_stmt-Continue _ _)

pub returns-in-Return : goal.returns-in-Return
returns-in-Return c = sym (ap span_of_stmt c.in-Return.is ∙ standing.span_of_stmt-Return _ _)

pub returns-in-Exit : goal.returns-in-Exit
returns-in-Exit c = sym (ap span_of_stmt c.in-Exit.is ∙ standing.span_of_stmt-Exit _)

pub returns-in-Spawn : goal.returns-in-Spawn
returns-in-Spawn c = sym (ap span_of_stmt c.in-Spawn.is ∙ standing.span_of_stmt-Spawn _ _)

pub returns-in-Raise : goal.returns-in-Raise
returns-in-Raise c = sym (ap span_of_stmt c.in-Raise.is ∙ standing.span_of_stmt-Raise _ _)
