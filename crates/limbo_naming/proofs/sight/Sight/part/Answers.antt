use Rattle.limbo_entries.specs.View.{entries_of}
use Rattle.limbo_naming.proofs.Saying.{part_keeps}
use Rattle.limbo_naming.proofs.sight.Sight.part.Goals as goal

pub returns-in_default : goal.returns-in_default
returns-in_default c = λ scope q s.
    part_keeps (entries_of c.args.self.now.table.now.entries.items) c.args.self.now.implemented c.args.self.now.states.now c.requires.sight scope q c.args.name.now
    c.args.outer c.in_default.not-Named s
