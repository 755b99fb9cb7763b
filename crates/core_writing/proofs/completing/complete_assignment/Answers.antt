use Rattle.core_writing.proofs.completing.complete_assignment.Goals as goal

pub returns : goal.returns
returns c = λ defs us t.
    let aims = rw c.new-aims.ensures.items at (c.in_ok-add_aims.ensures {u = tt}) in
    rw aims at (c.in_ok-l.ensures {u = tt} defs us t)
