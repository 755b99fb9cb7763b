use Rattle.limbo_entries.specs.View.{entries_of}
use Rattle.limbo_naming.proofs.Saying.{member_unknown}
use Rattle.limbo_naming.proofs.Direct.{no_member_declared}
use Rattle.limbo_naming.proofs.naming.Naming.member_declared.Goals as goal

pub returns-in-Unknown : goal.returns-in-Unknown
returns-in-Unknown c = record {
  declared = λ scope q l.
      let n = c.args.self.now in
      member_unknown (entries_of n.table.now.entries.items) n.implemented n.states.items c.requires.names.sight scope q c.args.name.now (rw c.in-Unknown.is at l);
}

pub returns-in-Nothing : goal.returns-in-Nothing
returns-in-Nothing c = record {
  declared = λ scope q s.
      let n = c.args.self.now in
      no_member_declared (entries_of n.table.now.entries.items) n.implemented n.states.items c.requires.names.sight scope q c.args.name.now (rw c.in-Nothing.is at s);
}
