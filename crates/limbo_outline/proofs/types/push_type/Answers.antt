use Rattle.std.proofs.Common.{map, sym, ap, subst}
use Rattle.std.proofs.lemmas.List.{map-append}
use Rattle.limbo_tree.specs.View.{view_type}
use Rattle.limbo_types.specs.Types.{Ty}
use Rattle.limbo_types.specs.View.{view_ty}
use Rattle.limbo_declarations.specs.View.{view_declared}
use Rattle.limbo_entries.specs.declared.table.Table.{Table}
use Rattle.limbo_entries.specs.Entries.{IsEntry}
use Rattle.limbo_entries.specs.View.{entries_of, view_entry}
use Rattle.limbo_type_names.specs.Means.{Stands}
use Rattle.limbo_type_names.specs.Working.{entries_in}
use Rattle.limbo_meanings.specs.Kinds.{is_own, is_outermost}
use Rattle.limbo_meanings.proofs.Places.{entry_at}
use Rattle.limbo_outline.proofs.Forms.{only_type}
use Rattle.limbo_outline.proofs.Telling.{type_yes, type_no}
use Rattle.limbo_outline.proofs.types.push_type.Goals as goal

pub returns-in_ok-push-in-Some : goal.returns-in_ok-push-in-Some
returns-in_ok-push-in-Some c = λ listed.
    let n = c.args.names.now.naming.now in
    let k = c.args.number in
    let x = c.index-entry.result.now in
    let at = subst (λ (z : Table). IsEntry (entries_of z.entries.items) k (view_entry x)) (sym c.requires.table)
    (entry_at c.args.table.now.entries.items k x c.requires.there c.index-entry.ensures) in
    let u = c.in_ok-copied-in-Some.copied in
    rw c.in_ok-push-in-Some.ensures.items
    (rw map-append
    (type_yes (entries_in n) n.implemented k (view_entry x) (view_type c.in-Alias._of.now) (map view_ty c.args.types.now.items) (view_ty u) at
    (ap view_declared c.in-Alias.is)
    (subst (λ (z : Ty). Stands (entries_in n) n.implemented k z) (sym c.in_ok-copied-in-Some.ensures) c.in-Some.ensures.some) listed))

pub returns-in_default : goal.returns-in_default
returns-in_default c = λ listed.
    let n = c.args.names.now.naming.now in
    let k = c.args.number in
    let x = c.index-entry.result.now in
    let at = subst (λ (z : Table). IsEntry (entries_of z.entries.items) k (view_entry x)) (sym c.requires.table)
    (entry_at c.args.table.now.entries.items k x c.requires.there c.index-entry.ensures) in
    type_no (entries_in n) n.implemented k (view_entry x) (map view_ty c.args.types.now.items) at
    (only_type (is_own (entries_in n) n.implemented x.within) (is_outermost n.implemented x.within) x.row.declared c.in_default.not-Alias) listed
