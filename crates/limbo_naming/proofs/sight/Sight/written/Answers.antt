use Rattle.limbo_naming.specs.Qualified.{Simple}
use Rattle.limbo_naming.proofs.sight.Sight.written.Goals as goal

pub returns-in-Type : goal.returns-in-Type
returns-in-Type c = rw c.in-Type.is c.qual.ensures

pub returns-in-Imported : goal.returns-in-Imported
returns-in-Imported c = rw c.in-Imported.is (c.member.ensures c.args.scope (Simple c.in-Imported.source.now) c.simple-outer.ensures)
