use Rattle.std.proofs.Common.{◌≡◌, true, false, sym, ap, ◌∙◌}
use Rattle.limbo_declarations.specs.View.{view_declared}
use Rattle.limbo_entries.specs.Entries as entries
use Rattle.limbo_entries.specs.View.{entries_of, view_entry}
use Rattle.limbo_naming.specs.Naming.{is_adt}
use Rattle.limbo_meanings.proofs.Places.{entry_at}
use Rattle.limbo_source_adts.proofs.Collecting.{not_adt}
use Rattle.limbo_bodies.proofs.Declaring.{some_member, none_member}
use Rattle.limbo_bodies.proofs.declared.member_of_adt.Goals as goal

pub returns-in-Adt-clause-some : goal.returns-in-Adt-clause-some
returns-in-Adt-clause-some c =
    let all = c.args.table.now.entries.items in
    let x = c.index.result.now in
    some_member (entries_of all) c.args.outer c.args.name.now (view_entry x) c.member.result (entry_at all c.args.outer x c.requires.there
    c.index.ensures)
    (ap (λ z. is_adt (view_declared z)) c.in-Adt.is) c.member.ensures.found

pub returns-in-Adt-clause-none : goal.returns-in-Adt-clause-none
returns-in-Adt-clause-none c =
    none_member (entries_of c.args.table.now.entries.items) c.args.outer c.args.name.now c.member.result c.member.ensures.absent

pub returns-in_default : goal.returns-in_default
returns-in_default c = record {
  some = tt;
  none = λ k e at is w.
      let all = c.args.table.now.entries.items in
      let x = c.index.result.now in
      let here = entry_at all c.args.outer x c.requires.there c.index.ensures in
      let s : view_entry x ≡ e = cc in
      let f : is_adt (view_declared x.row.declared) ≡ false = not_adt x.row.declared c.in_default.not-Adt in
      let g : true ≡ false = sym is ∙ ap (λ (z : entries.Entry). is_adt z.row.means) (sym s) ∙ f in
      absurd cc;
}
