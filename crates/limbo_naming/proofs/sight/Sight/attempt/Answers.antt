use Rattle.limbo_entries.specs.View.{entries_of, view_entry}
use Rattle.limbo_naming.specs.Naming.{itself}
use Rattle.limbo_naming.specs.View.{view_written}
use Rattle.limbo_naming.proofs.Places.{entry_at}
use Rattle.limbo_naming.proofs.Trying.{tries}
use Rattle.limbo_naming.proofs.sight.Sight.attempt.Goals as goal

pub returns-in-None : goal.returns-in-None
returns-in-None c =
    itself c.args.number (view_entry c.index-entry.result.now) (entry_at c.args.self.now.table.now.entries.items c.args.number c.index-entry.result.now c.requires.there c.index-entry.ensures)
    c.in-None.ensures.none

pub returns-in-Some : goal.returns-in-Some
returns-in-Some c =
    tries (entries_of c.args.self.now.table.now.entries.items) c.args.self.now.implemented c.args.self.now.states.now c.requires.sight c.args.number
    (view_entry c.index-entry.result.now) (view_written c.in-Some.name)
    (entry_at c.args.self.now.table.now.entries.items c.args.number c.index-entry.result.now c.requires.there c.index-entry.ensures) c.in-Some.ensures.some
    c.written.result c.written.ensures
