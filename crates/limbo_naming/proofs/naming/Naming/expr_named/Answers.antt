use Rattle.limbo_naming.proofs.Telling.{told_of}
use Rattle.limbo_naming.proofs.naming.Naming.expr_named.Goals as goal

pub returns-in-Some-clause-named : goal.returns-in-Some-clause-named
returns-in-Some-clause-named c =
    let s = c.in-Some.ensures.some in (
      s.0,
      s.1,
      told_of c.args.self.now c.sight.result c.sight.ensures.table c.sight.ensures.implemented c.sight.ensures.states c.requires.names c.args.scope s.0
          c.in-Some.found c.told.result c.told.ensures s.2,
    )
