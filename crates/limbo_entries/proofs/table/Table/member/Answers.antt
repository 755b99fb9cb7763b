use Rattle.std.proofs.Common.{◌+◌}
use Rattle.limbo_entries.proofs.Indexed.{member_of}
use Rattle.limbo_entries.proofs.Seeking.{key_within, none_there}
use Rattle.limbo_entries.proofs.table.Table.member.Goals as goal

pub returns-in-None-clause-absent : goal.returns-in-None-clause-absent
returns-in-None-clause-absent c = c.in-None.ensures.none c.args.name.now

pub returns-in-None-find-clause-absent : goal.returns-in-None-find-clause-absent
returns-in-None-find-clause-absent c =
    none_there c.args.self.now.entries.items c.args.scope c.in-Some.scope.now c.args.name.now c.in-Some.ensures.some
    c.in-None-find.ensures.absent

pub returns-in-Some-find-clause-found : goal.returns-in-Some-find-clause-found
returns-in-Some-find-clause-found c =
    member_of c.args.self.now.entries.items c.args.scope c.args.name.now (c.in-Some.scope.now.first + c.in-Some-find.place)
    (c.in-Some.ensures.some.there c.args.name.now c.in-Some-find.place c.in-Some-find.ensures.found)

pub returns-in-Some-find-clause-within : goal.returns-in-Some-find-clause-within
returns-in-Some-find-clause-within c =
    key_within c.args.self.now.entries.items c.args.scope c.args.name.now (c.in-Some.scope.now.first + c.in-Some-find.place)
    (c.in-Some.ensures.some.there c.args.name.now c.in-Some-find.place c.in-Some-find.ensures.found)
