use Rattle.std.proofs.Common.{ap}
use Rattle.limbo_declarations.specs.View.{view_declared}
use Rattle.limbo_entries.specs.View.{entries_of, view_entry}
use Rattle.limbo_meanings.proofs.Places.{entry_at}
use Rattle.limbo_imports.proofs.Importing.{import_yes, import_no, missing_at}
use Rattle.limbo_imports.proofs.imports.push_import.Goals as goal

pub returns-in_ok-push-in-Some-clause-imports : goal.returns-in_ok-push-in-Some-clause-imports
returns-in_ok-push-in-Some-clause-imports c = λ listed.
    let all = c.args.naming.now.table.now.entries.items in
    let k = c.args.number in
    let x = c.index-entry.result.now in
    let at = entry_at all k x c.requires.there (rw c.table.ensures at c.index-entry.ensures) in
    rw c.in_ok-push-in-Some.ensures.items
    (import_yes (entries_of all) c.args.implemented c.args.meanings.now c.args.others.now k (view_entry x) c.in-Imported.source.now.text
    c.args.imports.now.items
    c.in-Some.told at (ap view_declared c.in-Imported.is) c.in-Some.ensures.some listed)

pub returns-in-None-clause-not_there : goal.returns-in-None-clause-not_there
returns-in-None-clause-not_there c = λ n e.
    let all = c.args.naming.now.table.now.entries.items in
    let k = c.args.number in
    let x = c.index-entry.result.now in
    let at = entry_at all k x c.requires.there (rw c.table.ensures at c.index-entry.ensures) in
    missing_at (entries_of all) c.args.implemented c.args.meanings.now c.args.others.now k n (view_entry x) c.in-Imported.source.now.text
    e at
    (ap view_declared c.in-Imported.is) c.in-None.ensures.none

pub returns-in_default : goal.returns-in_default
returns-in_default c = record {
  imports = λ listed.
      let all = c.args.naming.now.table.now.entries.items in
      let k = c.args.number in
      let x = c.index-entry.result.now in
      let at = entry_at all k x c.requires.there (rw c.table.ensures at c.index-entry.ensures) in
      import_no (entries_of all) c.args.implemented c.args.meanings.now c.args.others.now k x c.args.imports.now.items at
      c.in_default.not-Imported listed;
  not_there = tt;
}
