use Rattle.std.proofs.Common.{◌≡◌, ℕ, None, Some, sym, subst, ◌∙◌}
use Rattle.limbo_entries.specs.Entries.{HasNone, IsMember}
use Rattle.limbo_entries.specs.View.{entries_of}
use Rattle.limbo_entries.specs.declared.table.Table.{Table}
use Rattle.limbo_naming.specs.Qualified.{Simple}
use Rattle.limbo_naming.specs.Naming.{Names}
use Rattle.limbo_exports.specs.System.{module_in}
use Rattle.limbo_imports.specs.Imports.{meaning_at}
use Rattle.limbo_imports.proofs.Importing.{no_module, no_member, no_export}
use Rattle.limbo_imports.proofs.imports.imported.Goals as goal

pub returns-in-None-module_in-clause-none : goal.returns-in-None-module_in-clause-none
returns-in-None-module_in-clause-none c =
    let es = entries_of c.args.naming.now.table.now.entries.items in
    let outer = c.in-Found.outer in
    let names = subst (λ (z : ℕ). Names es z c.args.scope (Simple c.args.source.now) outer) c.requires.implemented
    c.in-Found.ensures.named in
    let h : module_in (meaning_at c.args.meanings.now outer) ≡ None = rw c.meaning_at.ensures at (sym c.module_in.ensures ∙
    c.in-None-module_in.is) in
    no_module es c.args.implemented c.args.meanings.now c.args.others.now c.args.scope c.args.source.now c.args.name.now c.requires.once
    outer names h

pub returns-in-None-member-clause-none : goal.returns-in-None-member-clause-none
returns-in-None-member-clause-none c =
    let es = entries_of c.args.naming.now.table.now.entries.items in
    let outer = c.in-Found.outer in
    let names = subst (λ (z : ℕ). Names es z c.args.scope (Simple c.args.source.now) outer) c.requires.implemented
    c.in-Found.ensures.named in
    let none = subst (λ (z : Table). HasNone (entries_of z.entries.items) (Some outer) c.args.name.now) c.table-table.ensures
    c.in-None-member.ensures.absent in
    no_member es c.args.implemented c.args.meanings.now c.args.others.now c.args.scope c.args.source.now c.args.name.now c.requires.once
    outer names none

pub returns-in-None-meaning_at-clause-none : goal.returns-in-None-meaning_at-clause-none
returns-in-None-meaning_at-clause-none c =
    let es = entries_of c.args.naming.now.table.now.entries.items in
    let outer = c.in-Found.outer in
    let names = subst (λ (z : ℕ). Names es z c.args.scope (Simple c.args.source.now) outer) c.requires.implemented
    c.in-Found.ensures.named in
    let number = c.in-Some-member.number in
    let member = subst (λ (z : Table). IsMember (entries_of z.entries.items) (Some outer) c.args.name.now number) c.table-table.ensures
    c.in-Some-member.ensures.found in
    no_export es c.args.implemented c.args.meanings.now c.args.others.now c.args.scope c.args.source.now c.args.name.now c.requires.once
    outer names number member
    (sym c.meaning_at-in-Some-member.ensures ∙ c.in-None-meaning_at.is)
