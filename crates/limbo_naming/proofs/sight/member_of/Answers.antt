use Rattle.std.proofs.Common.{◌≡◌, ℕ, false, sym, subst, ◌∙◌}
use Rattle.limbo_entries.specs.Entries.{IsEntry}
use Rattle.limbo_entries.specs.View.{entries_of, view_entry}
use Rattle.limbo_naming.proofs.Parts.{seen_so, variable_hidden}
use Rattle.limbo_naming.proofs.sight.member_of.Goals as goal

pub returns-then-is_variable-clause-absent : goal.returns-then-is_variable-clause-absent
returns-then-is_variable-clause-absent c = λ k m.
    let f = c.in-Some.ensures.found in
    let e : k ≡ c.in-Some.found = c.requires.once _ _ k c.in-Some.found m.member f in
    variable_hidden c.args.table.now.entries.items c.in-Some.found c.index.result.now c.in-Some.ensures.within c.index.ensures
    m.member.entry (subst (λ (z : ℕ). IsEntry (entries_of c.args.table.now.entries.items) z m.member.entry) e m.member.there) (c.if-is_variable.ensures) m.seen

pub returns-in-None-clause-absent : goal.returns-in-None-clause-absent
returns-in-None-clause-absent c = λ k m. c.in-None.ensures.absent k m.member

pub returns-else-is_variable-clause-found : goal.returns-else-is_variable-clause-found
returns-else-is_variable-clause-found c = record {
  outer = view_entry c.args.entry.now;
  there = c.requires.entry;
  of_module = sym c.is_module.ensures ∙ c.if-not-is_module.false;
  member = c.in-Some.ensures.found;
  seen =
      seen_so c.args.table.now.entries.items c.in-Some.found c.index.result.now c.in-Some.ensures.found.entry false c.in-Some.ensures.within c.index.ensures
      c.in-Some.ensures.found.there (c.if-is_variable.ensures);
}
