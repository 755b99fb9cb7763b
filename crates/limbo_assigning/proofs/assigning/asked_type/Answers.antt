use Rattle.limbo_typed.specs.View.{view_pattern}
use Rattle.limbo_assigning.proofs.Told.{asks_some, asks_none}
use Rattle.limbo_assigning.proofs.assigning.asked_type.Goals as goal

pub returns-in_ok-new-in-Some-clause-asked : goal.returns-in_ok-new-in-Some-clause-asked
returns-in_ok-new-in-Some-clause-asked c =
    asks_some c.in_ok-t.field-0 c.in-Some.t (view_pattern c.args.pattern.now) c.args.value.now c.in_ok-new-in-Some.field-0.value c.in-Some.is
    c.in_ok-t.ensures c.in_ok-new-in-Some.ensures.ok

pub returns-in-None-clause-none : goal.returns-in-None-clause-none
returns-in-None-clause-none c =
    asks_none c.in_ok-t.field-0 (view_pattern c.args.pattern.now) c.args.value.now c.in-None.is c.in_ok-t.ensures
