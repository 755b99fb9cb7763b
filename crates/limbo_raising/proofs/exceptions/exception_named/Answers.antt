use Rattle.limbo_things.specs.Things.{AnException}
use Rattle.limbo_raising.proofs.exceptions.exception_named.Goals as goal

pub returns-in-Err-Nothing-clause-none : goal.returns-in-Err-Nothing-clause-none
returns-in-Err-Nothing-clause-none c = λ e i h. c.in-Err-Nothing.ensures.nothing c.in-Err-Nothing.field-0-is (AnException i) h
