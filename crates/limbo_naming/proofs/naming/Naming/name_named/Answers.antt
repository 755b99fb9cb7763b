use Rattle.limbo_naming.proofs.Telling.{told_of}
use Rattle.limbo_naming.proofs.naming.Naming.name_named.Goals as goal

pub returns : goal.returns
returns c = record {
  named =
      told_of c.args.self.now c.sight.result c.sight.ensures.table c.sight.ensures.implemented c.sight.ensures.states c.requires.names c.args.scope _
      c.simple.result c.told.result c.told.ensures c.simple.ensures;
}
