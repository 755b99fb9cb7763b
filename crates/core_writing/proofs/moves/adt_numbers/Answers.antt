use Rattle.core_writing.proofs.moves.adt_numbers.Goals as goal

pub returns-in_ok-numbers-in-Some-Some : goal.returns-in_ok-numbers-in-Some-Some
returns-in_ok-numbers-in-Some-Some c = λ defs.
    rw (c.in-Some-Some.is-0, c.in-Some-Some.is-1) (c.in_ok-numbers-in-Some-Some.ensures {u = tt} defs)

pub returns-in_ok-numbers-in-Some-None : goal.returns-in_ok-numbers-in-Some-None
returns-in_ok-numbers-in-Some-None c = λ defs.
    rw (c.in-Some-None.is-0, c.in-Some-None.is-1) (c.in_ok-numbers-in-Some-None.ensures {u = tt} defs)

pub returns-in_ok-numbers-in-None-default : goal.returns-in_ok-numbers-in-None-default
returns-in_ok-numbers-in-None-default c = λ defs.
    rw c.in-None-default.is-0 (c.in_ok-numbers-in-None-default.ensures {u = tt} defs)
