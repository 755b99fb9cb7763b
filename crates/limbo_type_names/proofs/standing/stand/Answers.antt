use Rattle.std.proofs.Common.{◌≡◌, get_or, refl, sym, ap, subst, ◌∙◌}
use Rattle.limbo_types.specs.Types as ty
use Rattle.limbo_types.specs.Types.{Ty}
use Rattle.limbo_types.proofs.View.{view_ty-Adt, view_ty-Module}
use Rattle.limbo_declarations.specs.View.{view_declared}
use Rattle.limbo_entries.specs.View.{view_entry}
use Rattle.limbo_naming.specs.Naming.{is_adt, is_module}
use Rattle.limbo_naming.proofs.Places.{entry_at, state_at}
use Rattle.limbo_type_names.specs.Sizes.{size}
use Rattle.limbo_type_names.specs.Means as means
use Rattle.limbo_type_names.specs.Means.{Stands}
use Rattle.limbo_type_names.specs.Working.{entries_in}
use Rattle.limbo_type_names.proofs.Knowing.{number_within, number_is}
use Rattle.limbo_type_names.proofs.Rows.{is_other}
use Rattle.limbo_type_names.proofs.standing.stand.Goals as goal

pub bounds-known-number : goal.bounds-known-number
bounds-known-number c =
    number_within c.args.known.naming.now.table.now.entries.items c.args.known.numbers.now c.args.number c.requires.sees.numbers c.requires.there

pub bounds-known-number-in-Module : goal.bounds-known-number-in-Module
bounds-known-number-in-Module c =
    number_within c.args.known.naming.now.table.now.entries.items c.args.known.numbers.now c.args.number c.requires.sees.numbers c.requires.there

pub leaf-requires : goal.leaf-requires
leaf-requires c =
    record { one = ap size (view_ty-Adt (get_or c.args.known.numbers.now c.args.number 0)) }

pub leaf-requires-in-Module : goal.leaf-requires-in-Module
leaf-requires-in-Module c =
    record { one = ap size (view_ty-Module (get_or c.args.known.numbers.now c.args.number 0)) }

pub by_type-requires-clause-is : goal.by_type-requires-clause-is
by_type-requires-clause-is c =
    let n = c.args.known.naming.now in
    let all = n.table.now.entries.items in
    let x = c.index-entry.result.now in
    let f : x ≡ get_or all c.args.number x = rw c.table-table.ensures at c.index-entry.ensures in
    record {
      entry = x;
      there = state_at all c.args.number x c.requires.there f;
      within = refl;
      of = c.in-Alias.of;
      is = c.in-Alias.is;
      writes = refl;
    }

pub imported-requires-clause-there : goal.imported-requires-clause-there
imported-requires-clause-there c =
    let n = c.args.known.naming.now in
    let all = n.table.now.entries.items in
    let x = c.index-entry.result.now in
    let f : x ≡ get_or all c.args.number x = rw c.table-table.ensures at c.index-entry.ensures in
    entry_at all c.args.number x c.requires.there f

pub returns-in-Adt-clause-settles : goal.returns-in-Adt-clause-settles
returns-in-Adt-clause-settles c =
    let n = c.args.known.naming.now in
    let all = n.table.now.entries.items in
    let x = c.index-entry.result.now in
    let f : x ≡ get_or all c.args.number x = rw c.table-table.ensures at c.index-entry.ensures in
    let i = entry_at all c.args.number x c.requires.there f in
    let e = c.leaf.ensures ∙ view_ty-Adt (get_or c.args.known.numbers.now c.args.number 0)
    ∙ ap ty.Adt (number_is (entries_in n) c.args.known.numbers.now c.args.number (view_entry x) c.requires.sees.numbers i) in
    subst (λ (z : Ty). Stands (entries_in n) n.implemented c.args.number z) (sym e)
    (means.adt c.args.number (view_entry x) i (ap (λ d. is_adt (view_declared d)) c.in-Adt.is))

pub returns-in-Module-clause-settles : goal.returns-in-Module-clause-settles
returns-in-Module-clause-settles c =
    let n = c.args.known.naming.now in
    let all = n.table.now.entries.items in
    let x = c.index-entry.result.now in
    let f : x ≡ get_or all c.args.number x = rw c.table-table.ensures at c.index-entry.ensures in
    let i = entry_at all c.args.number x c.requires.there f in
    let e = c.leaf-in-Module.ensures ∙ view_ty-Module (get_or c.args.known.numbers.now c.args.number 0)
    ∙ ap ty.Module (number_is (entries_in n) c.args.known.numbers.now c.args.number (view_entry x) c.requires.sees.numbers i) in
    subst (λ (z : Ty). Stands (entries_in n) n.implemented c.args.number z) (sym e)
    (means.module_type c.args.number (view_entry x) i (ap (λ d. is_module (view_declared d)) c.in-Module.is))

pub returns-in_default : goal.returns-in_default
returns-in_default c =
    let n = c.args.known.naming.now in
    let all = n.table.now.entries.items in
    let x = c.index-entry.result.now in
    let f : x ≡ get_or all c.args.number x = rw c.table-table.ensures at c.index-entry.ensures in
    record {
      settles = means.other c.args.number (view_entry x) (entry_at all c.args.number x c.requires.there f)
          (is_other x.row.declared c.in_default.not-Adt c.in_default.not-Module c.in_default.not-Alias c.in_default.not-Imported);
      fails = tt;
    }
