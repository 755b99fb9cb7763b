use Rattle.limbo_declarations.proofs.Found.{index_within}
use Rattle.limbo_declarations.proofs.names.Names.find.Goals as goal

pub returns-clause-within : goal.returns-clause-within
returns-clause-within c = index_within c.look_up.result c.args.self.now.index c.args.self.now.rows.items c.args.name.now c.args.self.now.found c.look_up.ensures
