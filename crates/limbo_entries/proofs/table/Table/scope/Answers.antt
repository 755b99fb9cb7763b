use Rattle.std.proofs.Common.{◌≤◌, length, arith}
use Rattle.limbo_entries.proofs.Seeking.{none_inside, none_of}
use Rattle.limbo_entries.proofs.table.Table.scope.Goals as goal

pub returns-in-Some-clause-none : goal.returns-in-Some-clause-none
returns-in-Some-clause-none c =
    let t = c.args.self.now in
    none_of (length c.deref.result.now ≤ c.in-Some.number) _ c.get.result c.get.ensures.lookup.3
    (λ l name.
    let past : length t.entries.items ≤ c.in-Some.number = omega (arith, l, c.deref.ensures.len, t.many) in
    rw c.in-Some.is (none_inside t.entries.items c.in-Some.number t.outwards past name))
