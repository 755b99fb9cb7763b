use Rattle.limbo_naming.specs.Qualified.{Simple}
use Rattle.limbo_naming.proofs.Telling.{told_of}
use Rattle.limbo_naming.proofs.naming.Naming.module_named.Goals as goal

pub returns : goal.returns
returns c = record {
  named =
      told_of c.args.self.now c.sight-sight.result c.sight-sight.ensures.table c.sight-sight.ensures.implemented c.sight-sight.ensures.states c.requires.names c.args.scope _
      c.with_member.result c.told.result c.told.ensures (c.with_member.ensures c.args.scope (Simple c.args.name.now.first.text) c.simple.ensures);
}
