use Rattle.std.proofs.Common.{sym, subst}
use Rattle.limbo_tree.specs.View as source
use Rattle.limbo_types.specs.View.{view_fn}
use Rattle.limbo_context.specs.View.{view_context}
use Rattle.limbo_stmt_values.specs.limbo_stating.Functions.{outside}
use Rattle.limbo_stmt_values.proofs.Told.{reasons_weaker}
use Rattle.limbo_functions.specs.Headings.{FailsHeading, again}
use Rattle.limbo_functions.proofs.beginning.begin.Goals as goal

pub returns-in-Err-clause-refused : goal.returns-in-Err-clause-refused
returns-in-Err-clause-refused c =
    let p = c.args.point.now in
    let fails = FailsHeading (view_context p.context) (outside p.body.scopes) (source.view_fn c.args.function.now.of)
    (view_fn c.args.of.now) in
    reasons_weaker c.in-Err.fault.why _ _ (λ k h. subst fails (sym h.0) (again h.1)) c.in-Err.ensures.refused
