use Rattle.limbo_headers.specs.Refusals.{FailsHeading}
use Rattle.limbo_source_context.proofs.Knowing.{moved}
use Rattle.limbo_source_context.proofs.known.find_known.Goals as goal

pub returns-in-Err-clause-fails : goal.returns-in-Err-clause-fails
returns-in-Err-clause-fails c =
    c.of_types.ensures c.args.table.now.entries.items c.args.implemented
    (moved (λ z m. FailsHeading z.entries.items m c.in-Err.fault) c.args.names.now c.args.naming.now c.args.table.now c.args.implemented
    c.requires.types c.requires.naming
    c.in-Err.ensures.fails)
