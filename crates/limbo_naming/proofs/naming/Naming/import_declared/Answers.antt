use Rattle.limbo_naming.specs.Qualified.{Simple}
use Rattle.limbo_naming.proofs.naming.Naming.import_declared.Goals as goal

pub returns : goal.returns
returns c = record { declared = c.member_declared.ensures.declared c.args.scope (Simple c.args.source.now) c.name_named.ensures.named }
