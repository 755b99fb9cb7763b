use Rattle.limbo_declare.proofs.Failing.{fails_inside}
use Rattle.limbo_declare.proofs.stages.make_table.Goals as goal

pub returns-in-Err-Twice-clause-fails : goal.returns-in-Err-Twice-clause-fails
returns-in-Err-Twice-clause-fails c = λ implements tops a.
    fails_inside implements tops c.args.top.now a
    (rw (c.in_ok-rows.ensures, c.deref.ensures.value, c.deref-2.ensures.value) at (c.in-Err-Twice.ensures.twice c.in-Err-Twice.row c.in-Err-Twice.field-0-is))
