use Rattle.std.proofs.Common.{sym}
use Rattle.limbo_entries.specs.View.{entries_of, view_entry}
use Rattle.limbo_meanings.proofs.Places.{entry_at}
use Rattle.limbo_outline.proofs.Scoping.{scope_yes, scope_no}
use Rattle.limbo_outline.proofs.members.push_scope.Goals as goal

pub returns-then-not-is_of_kind-clause-scopes : goal.returns-then-not-is_of_kind-clause-scopes
returns-then-not-is_of_kind-clause-scopes c = λ means right listed.
    let all = c.args.table.now.entries.items in
    let k = c.args.number in
    let x = c.index-entry.result.now in
    scope_no (entries_of all) c.args.implemented c.args.kind means k (view_entry x) c.args.scopes.now.items
    (entry_at all k x c.requires.there c.index-entry.ensures) (sym c.if-not-is_of_kind.ensures) listed

pub returns-clause-scopes : goal.returns-clause-scopes
returns-clause-scopes c = λ means right listed.
    let all = c.args.table.now.entries.items in
    let k = c.args.number in
    let x = c.index-entry.result.now in
    rw c.in_ok-push.ensures.items
    (scope_yes (entries_of all) c.args.implemented c.args.kind means k (view_entry x) c.args.scopes.now.items c.take_scope-row.result
    (entry_at all k x c.requires.there c.index-entry.ensures) (sym c.if-not-is_of_kind.ensures) (right c.take_scope-row.result c.take_scope-row.ensures.taken) listed)
