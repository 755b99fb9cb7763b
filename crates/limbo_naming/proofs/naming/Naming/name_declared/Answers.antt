use Rattle.limbo_naming.specs.Direct.{simple}
use Rattle.limbo_naming.specs.Naming.{unknown}
use Rattle.limbo_naming.proofs.naming.Naming.name_declared.Goals as goal

pub returns-in-None : goal.returns-in-None
returns-in-None c = record { declared = unknown c.args.name.now c.in-None.ensures.absent }

pub returns-in-Some : goal.returns-in-Some
returns-in-Some c = record { declared = simple c.args.name.now c.in-Some.found c.in-Some.ensures.found }
