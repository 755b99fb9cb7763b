use Rattle.std.proofs.Common.{◌≡◌}
use Rattle.limbo_declarations.specs.Names.{names}
use Rattle.limbo_declarations.proofs.Found.{contains_at, has_name, only, absent}
use Rattle.limbo_declarations.proofs.Indexes.{once}
use Rattle.limbo_declarations.proofs.names.Names.row.Goals as goal

pub returns-in-Some-clause-found : goal.returns-in-Some-clause-found
returns-in-Some-clause-found c =
    let rows = c.args.self.now.rows.items in
    let f = c.in-Some.ensures in
    (contains_at rows c.in-Some.number c.index.result.now f.within c.index.ensures, has_name rows c.in-Some.number c.index.result.now c.args.name.now f.within c.index.ensures f.found)

pub returns-in-Some-clause-only : goal.returns-in-Some-clause-only
returns-in-Some-clause-only c =
    let rows = c.args.self.now.rows.items in
    let f = c.in-Some.ensures in
    only rows c.in-Some.number c.index.result.now c.args.name.now (once c.args.self.now.index (names rows) c.args.self.now.found) f.within c.index.ensures f.found

pub returns-in-None-clause-absent : goal.returns-in-None-clause-absent
returns-in-None-clause-absent c = absent c.args.self.now.rows.items c.args.name.now c.in-None.ensures.absent
