use Rattle.std.proofs.Common.{sym, subst}
use Rattle.limbo_tree.specs.View as source
use Rattle.limbo_types.specs.View.{view_fn}
use Rattle.limbo_causes.proofs.Telling.{fails_weaker}
use Rattle.limbo_context.specs.View.{view_context, view_body}
use Rattle.limbo_stmt_values.proofs.Told.{part_told, reasons_weaker}
use Rattle.limbo_functions.specs.Headings.{FailsHeading, a_type, unlike}
use Rattle.limbo_functions.proofs.heading.as_declared.Goals as goal

pub returns-in-Err-clause-refused : goal.returns-in-Err-clause-refused
returns-in-Err-clause-refused c =
    part_told c.in-Err.fault.cause c.part_fault.result.why _ c.part_fault.ensures
    (fails_weaker c.in-Err.fault.cause _ _ (λ k h. a_type k h) c.in-Err.ensures.refused)

pub returns-clause-refused : goal.returns-clause-refused
returns-clause-refused c =
    let is = FailsHeading (view_context c.args.context.now) (view_body c.args.body.now) (source.view_fn c.args.function.now.of)
    (view_fn c.args.of.now) in
    reasons_weaker c.unlike.result.why _ _
    (λ k e. subst is (sym e) (unlike (view_fn c.in-Ok.written) c.in-Ok.ensures.means (c.is_same.ensures.no c.if-is_same.false)))
    c.unlike.ensures
