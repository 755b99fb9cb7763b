use Rattle.limbo_type_names.proofs.Filling.{ready_all}
use Rattle.limbo_type_names.proofs.names.TypeNames.type_of.Goals as goal

pub type_in-requires-clause-ready : goal.type_in-requires-clause-ready
type_in-requires-clause-ready c = ready_all c.known.result c.args.self.now c.known.ensures.naming c.known.ensures.types c.requires.types c.args.scope _
