use Rattle.std.proofs.Common.{length, sym, ap, ◌∙◌}
use Rattle.limbo_entries.specs.Entries.{Entry}
use Rattle.limbo_entries.specs.View.{entries_of, view_entry}
use Rattle.limbo_naming.specs.Naming.{is_module}
use Rattle.limbo_naming.proofs.Places.{entry_at, not_there, one_entry, inside, past}
use Rattle.limbo_naming.proofs.Parts.{not_so}
use Rattle.limbo_naming.specs.Direct.{member}
use Rattle.limbo_naming.proofs.Saying.{member_absent}
use Rattle.limbo_naming.proofs.Direct.{member_nowhere_declared}
use Rattle.limbo_naming.proofs.naming.Naming.member_from.Goals as goal

pub returns-then-outer-len : goal.returns-then-outer-len
returns-then-outer-len c = record {
  declared = λ scope q n.
      member_nowhere_declared (entries_of c.args.self.now.table.now.entries.items) c.args.self.now.implemented c.args.self.now.states.items c.requires.names.sight scope q c.args.name.now c.args.outer n (λ e i x. (not_there c.args.self.now.table.now.entries.items c.args.outer (past c.args.outer c.len.result (length c.args.self.now.table.now.entries.items) (c.len.ensures ∙ c.args.self.now.table.now.entries.ok.0) c.if-outer-len.true)) e i);
}

pub returns-then-not-is_module : goal.returns-then-not-is_module
returns-then-not-is_module c = record {
  declared = λ scope q n.
      member_nowhere_declared (entries_of c.args.self.now.table.now.entries.items) c.args.self.now.implemented c.args.self.now.states.items c.requires.names.sight scope q c.args.name.now c.args.outer n
      (λ e i x. not_so (is_module e.row.means) x (ap (λ (z : Entry). is_module z.row.means) (one_entry (entries_of c.args.self.now.table.now.entries.items) c.args.outer e (view_entry c.index-entry.result.now) i
      (entry_at c.args.self.now.table.now.entries.items c.args.outer c.index-entry.result.now (inside c.args.outer c.len.result (length c.args.self.now.table.now.entries.items) (c.len.ensures ∙ c.args.self.now.table.now.entries.ok.0) c.if-outer-len.false) c.index-entry.ensures)) ∙ sym c.is_module.ensures ∙ c.if-not-is_module.true));
}

pub member_of-requires-clause-entry : goal.member_of-requires-clause-entry
member_of-requires-clause-entry c =
    (entry_at c.args.self.now.table.now.entries.items c.args.outer c.index-entry.result.now (inside c.args.outer c.len.result (length c.args.self.now.table.now.entries.items) (c.len.ensures ∙ c.args.self.now.table.now.entries.ok.0) c.if-outer-len.false) c.index-entry.ensures)

pub returns-in-None : goal.returns-in-None
returns-in-None c = record {
  declared = λ scope q n.
      member_absent (entries_of c.args.self.now.table.now.entries.items) c.args.self.now.implemented c.args.self.now.states.items c.requires.names.sight scope q c.args.name.now c.args.outer n (view_entry c.index-entry.result.now)
      (entry_at c.args.self.now.table.now.entries.items c.args.outer c.index-entry.result.now (inside c.args.outer c.len.result (length c.args.self.now.table.now.entries.items) (c.len.ensures ∙ c.args.self.now.table.now.entries.ok.0) c.if-outer-len.false) c.index-entry.ensures) (sym c.is_module.ensures ∙ c.if-not-is_module.false) c.in-None.ensures.absent;
}

pub returns-in-Some : goal.returns-in-Some
returns-in-Some c = record { declared = λ scope q n. member q c.args.name.now c.args.outer c.in-Some.found n c.in-Some.ensures.found }
