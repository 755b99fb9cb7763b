use Rattle.limbo_declare.proofs.meanings.check_names.Goals as goal

pub returns-in-Ok-clause-known : goal.returns-in-Ok-clause-known
returns-in-Ok-clause-known c = c.in-Ok.ensures.known c.args.implemented c.requires.naming
