use Rattle.limbo_exprs_rows.proofs.answers.of_declared.Goals as goal

-- src/answers.rt:143:22
pub of_function-requires-clause-types : goal.of_function-requires-clause-types
of_function-requires-clause-types c = (c.in_ok-naming.naming, c.in_ok-naming.ensures.names, c.in-Ok.ensures.types)
