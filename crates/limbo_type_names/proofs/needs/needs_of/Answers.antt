use Rattle.std.proofs.Common.{[], ap}
use Rattle.limbo_tree.specs.View.{view_type}
use Rattle.limbo_declarations.specs.View.{view_declared}
use Rattle.limbo_entries.specs.View.{view_entry}
use Rattle.limbo_naming.specs.Qualified.{Simple, Member}
use Rattle.limbo_type_names.proofs.Needing.{needs_by_type, needs_import, empty}
use Rattle.limbo_type_names.proofs.needs.needs_of.Goals as goal

pub returns-in_ok-push_needs-in-Alias : goal.returns-in_ok-push_needs-in-Alias
returns-in_ok-push_needs-in-Alias c =
    needs_by_type c.args.naming.now c.args.number (view_entry c.entry-entry.result) (rw c.table.ensures at c.entry-entry.ensures) c.push_needs.new.row.items
    (view_type c.in-Alias.of.now) (ap view_declared c.in-Alias.is)
    (λ names are. c.in_ok-push_needs-in-Alias.ensures names (rw c.new-row.ensures.items are))

pub returns-in_ok-push_named-in-Imported : goal.returns-in_ok-push_named-in-Imported
returns-in_ok-push_named-in-Imported c =
    needs_import c.args.naming.now c.args.number (view_entry c.entry-entry.result) (rw c.table.ensures at c.entry-entry.ensures) c.push_named.new.row.items
    c.in-Imported.source.now.text (ap view_declared c.in-Imported.is)
    (c.in_ok-push_named-in-Imported.ensures c.args.naming.now c.entry-entry.result.within
    (Member (Simple c.in-Imported.source.now.text) c.entry-entry.result.row.name.now.text) [] c.requires.names c.import_declared-named.ensures.declared
    (rw c.new-row-in-Imported.ensures.items (empty c.args.naming.now c.entry-entry.result.within)))
