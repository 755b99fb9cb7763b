use Rattle.limbo_functions.proofs.answering.answered.Goals as goal

pub returns-then-answers-clause-answers : goal.returns-then-answers-clause-answers
returns-then-answers-clause-answers c =
    let h = c.answers.ensures.0 c.if-answers.true in
    rw c.deref.ensures.value at h
