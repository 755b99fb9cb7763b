use Rattle.std.proofs.Common.{sym}
use Rattle.limbo_tree.specs.View as source
use Rattle.limbo_context.specs.View.{view_context, view_body}
use Rattle.limbo_stmt_values.proofs.Told.{if_err}
use Rattle.limbo_raising.proofs.Raised.{text_fails, nothing_raised}
use Rattle.limbo_raising.proofs.raising.raise.Goals as goal

pub returns-in-None-clause-refused : goal.returns-in-None-clause-refused
returns-in-None-clause-refused c =
    let C = view_context c.args.context.now in
    let B = view_body c.args.body.now in
    let E = source.view_expr c.args.e.now in
    if_err c.raise_text.result _ _ (λ f g. text_fails C B E f.cause (nothing_raised C B E (sym c.in-None.ensures)) g)
    c.raise_text.ensures.refused
