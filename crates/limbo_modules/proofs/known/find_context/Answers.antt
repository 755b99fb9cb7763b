use Rattle.limbo_stmt_values.specs.limbo_stating.Reasons.{ByPart}
use Rattle.limbo_causes.specs.Causes.{Refused}
use Rattle.limbo_entries.specs.View.{entries_of}
use Rattle.limbo_context.specs.View.{view_context}
use Rattle.limbo_modules.specs.Failing.{FailsModule, forbidden}
use Rattle.limbo_modules.proofs.Telling.{tells_refused}
use Rattle.limbo_modules.proofs.known.find_context.Goals as goal

pub returns-in-Err-permit_all-clause-fails : goal.returns-in-Err-permit_all-clause-fails
returns-in-Err-permit_all-clause-fails c = λ tops.
    let es = entries_of c.args.declarations.now.table.entries.items in
    let m = c.args.declarations.now.implemented in
    tells_refused (FailsModule c.args.name.now tops es m) _ c.in-Err-permit_all.forbidden.fault c.of_permitted.result
    c.of_permitted.ensures
    (λ r h. forbidden (view_context c.in-Ok.known.context) c.in-Err-permit_all.forbidden.number r c.in-Ok.ensures.context h)
    c.in-Err-permit_all.ensures.refused
