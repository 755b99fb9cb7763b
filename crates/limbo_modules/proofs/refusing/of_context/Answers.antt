use Rattle.limbo_modules.proofs.Telling.{context_fails}
use Rattle.limbo_modules.proofs.refusing.of_context.Goals as goal

pub returns : goal.returns
returns c = λ name tops m h.
    context_fails c.args.table.now.entries.items m name tops c.args.fault c.cause_of-cause.result c.at_declaration.result h
    c.cause_of-cause.ensures c.at_declaration.ensures
