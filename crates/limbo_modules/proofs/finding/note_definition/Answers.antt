use Rattle.limbo_entries.specs.View.{entries_of}
use Rattle.limbo_modules.proofs.Defining.{kept, noted, undeclared}
use Rattle.limbo_modules.specs.Found.{standing}
use Rattle.std.proofs.Common.{refl}
use Rattle.limbo_modules.proofs.finding.note_definition.Goals as goal

pub returns-in-Some-clause-found : goal.returns-in-Some-clause-found
returns-in-Some-clause-found c = λ before are.
    let some = c.in-Some.ensures.some in
    noted (entries_of c.args.table.now.entries.items) c.args.implemented c.requires.once c.args.definition.path.now
    c.args.definition.function.now c.in-Some._declaration c.in-Some.number some.0 some.1 some.2 some.3 before c.args.found.now
    c.put.new.found c.args.definition refl c.put.ensures.kept c.put.ensures.put are

pub returns-in-None-clause-found : goal.returns-in-None-clause-found
returns-in-None-clause-found c = λ before are.
    let es = entries_of c.args.table.now.entries.items in
    let path = c.args.definition.path.now in
    let f = c.args.definition.function.now in
    kept es c.args.implemented before (standing path f) c.args.found.now
    (undeclared es c.args.implemented c.requires.once path f c.in-None.ensures.none) are
