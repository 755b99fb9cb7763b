use Rattle.limbo_source_context.proofs.source.source_context.Goals as goal

pub returns-clause-fit : goal.returns-clause-fit
returns-clause-fit c = rw c.deref.ensures.value at c.in_ok-check_beginnings.ensures.begin
