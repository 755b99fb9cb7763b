use Rattle.limbo_entries.specs.View.{entries_of}
use Rattle.limbo_naming.specs.Naming.{unknown}
use Rattle.limbo_naming.proofs.Places.{fewer}
use Rattle.limbo_naming.proofs.Saying.{simple_says}
use Rattle.limbo_naming.proofs.sight.Sight.simple.Goals as goal

pub returns-in-None : goal.returns-in-None
returns-in-None c = unknown c.args.name.now c.in-None.ensures.absent

pub returns-in-Some : goal.returns-in-Some
returns-in-Some c =
    simple_says (entries_of c.args.self.now.table.now.entries.items) c.args.self.now.implemented c.args.self.now.states.now c.requires.sight c.args.scope
    c.args.name.now c.in-Some.found c.lead.result (fewer c.args.self.now.table.now.entries.items c.in-Some.found c.in-Some.ensures.within)
    c.in-Some.ensures.found c.lead.ensures
