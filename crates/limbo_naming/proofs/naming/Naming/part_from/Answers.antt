use Rattle.std.proofs.Common.{length, sym, ap, ◌∙◌}
use Rattle.limbo_declarations.specs.View.{view_declared}
use Rattle.limbo_entries.specs.Entries.{Entry}
use Rattle.limbo_entries.specs.View.{entries_of, view_entry}
use Rattle.limbo_naming.specs.Naming.{has_parts}
use Rattle.limbo_naming.proofs.Places.{entry_at, not_there, one_entry, inside, past}
use Rattle.limbo_naming.proofs.Parts.{not_so, no_parts, no_parts_known, no_part_past}
use Rattle.limbo_naming.specs.Direct.{part}
use Rattle.limbo_naming.proofs.Saying.{part_absent}
use Rattle.limbo_naming.proofs.Direct.{part_nowhere_declared}
use Rattle.limbo_naming.proofs.naming.Naming.part_from.Goals as goal

pub returns-then-outer-len : goal.returns-then-outer-len
returns-then-outer-len c = record {
  declared = λ scope q n.
      part_nowhere_declared (entries_of c.args.self.now.table.now.entries.items) c.args.self.now.implemented c.args.self.now.states.items c.requires.names.sight scope q c.args.name.now c.args.outer n (λ e i x. (not_there c.args.self.now.table.now.entries.items c.args.outer (past c.args.outer c.len.result (length c.args.self.now.table.now.entries.items) (c.len.ensures ∙ c.args.self.now.table.now.entries.ok.0) c.if-outer-len.true)) e i) (no_part_past (entries_of c.args.self.now.table.now.entries.items) c.args.outer c.args.name.now (not_there c.args.self.now.table.now.entries.items c.args.outer (past c.args.outer c.len.result (length c.args.self.now.table.now.entries.items) (c.len.ensures ∙ c.args.self.now.table.now.entries.ok.0) c.if-outer-len.true)));
}

pub returns-then-not-has_parts : goal.returns-then-not-has_parts
returns-then-not-has_parts c = record {
  declared = λ scope q n.
      let w = no_parts_known (view_declared c.index-entry.result.now.row.declared) (sym c.has_parts.ensures ∙ c.if-not-has_parts.true) in
      part_nowhere_declared (entries_of c.args.self.now.table.now.entries.items) c.args.self.now.implemented c.args.self.now.states.items c.requires.names.sight scope q c.args.name.now c.args.outer n
      (λ e i x. not_so (has_parts e.row.means) x (ap (λ (z : Entry). has_parts z.row.means) (one_entry (entries_of c.args.self.now.table.now.entries.items) c.args.outer e (view_entry c.index-entry.result.now) i
      (entry_at c.args.self.now.table.now.entries.items c.args.outer c.index-entry.result.now (inside c.args.outer c.len.result (length c.args.self.now.table.now.entries.items) (c.len.ensures ∙ c.args.self.now.table.now.entries.ok.0) c.if-outer-len.false) c.index-entry.ensures)) ∙ sym c.has_parts.ensures ∙ c.if-not-has_parts.true))
      (no_parts (entries_of c.args.self.now.table.now.entries.items) c.args.outer (view_entry c.index-entry.result.now) (entry_at c.args.self.now.table.now.entries.items c.args.outer c.index-entry.result.now (inside c.args.outer c.len.result (length c.args.self.now.table.now.entries.items) (c.len.ensures ∙ c.args.self.now.table.now.entries.ok.0) c.if-outer-len.false) c.index-entry.ensures) c.args.name.now w.0 w.1);
}

pub part_of-requires : goal.part_of-requires
part_of-requires c = record {
  entry = (entry_at c.args.self.now.table.now.entries.items c.args.outer c.index-entry.result.now (inside c.args.outer c.len.result (length c.args.self.now.table.now.entries.items) (c.len.ensures ∙ c.args.self.now.table.now.entries.ok.0) c.if-outer-len.false) c.index-entry.ensures);
}

pub returns-in-None : goal.returns-in-None
returns-in-None c = record {
  declared = λ scope q n.
      part_absent (entries_of c.args.self.now.table.now.entries.items) c.args.self.now.implemented c.args.self.now.states.items c.requires.names.sight scope q c.args.name.now c.args.outer n (view_entry c.index-entry.result.now)
      (entry_at c.args.self.now.table.now.entries.items c.args.outer c.index-entry.result.now (inside c.args.outer c.len.result (length c.args.self.now.table.now.entries.items) (c.len.ensures ∙ c.args.self.now.table.now.entries.ok.0) c.if-outer-len.false) c.index-entry.ensures) (sym c.has_parts.ensures ∙ c.if-not-has_parts.false) c.in-None.ensures.absent;
}

pub returns-in-Some : goal.returns-in-Some
returns-in-Some c = record { declared = λ scope q n. part q c.args.name.now c.args.outer c.in-Some.found n c.in-Some.ensures.found }
