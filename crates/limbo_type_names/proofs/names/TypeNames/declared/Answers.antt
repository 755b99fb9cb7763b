use Rattle.std.proofs.Common.{◌<◌, Option, length, subst, arith}
use Rattle.limbo_naming.proofs.Places.{state_at, as_many}
use Rattle.limbo_type_names.specs.declared.counted.Counted.{Counted}
use Rattle.limbo_type_names.specs.Working.{entries_in, Settles}
use Rattle.limbo_type_names.proofs.Knowing.{settled_at}
use Rattle.limbo_type_names.proofs.names.TypeNames.declared.Goals as goal

pub returns-in-Some-clause-some : goal.returns-in-Some-clause-some
returns-in-Some-clause-some c =
    let t = c.args.self.now in
    let n = t.naming.now in
    let many = as_many n.table.now.entries.items in
    let k = c.args.number in
    let here : k < length n.table.now.entries.items = c.requires.there in
    let l : k < length (entries_in n) = omega arith in
    let same = c.requires.types.types.many in
    let w : k < length t.types.items = omega arith in
    subst (λ (z : Option Counted). Settles (entries_in n) n.implemented k z) c.in-Some.is
    (settled_at (entries_in n) n.implemented t.types.items k (c.requires.types.types.done k l) c.index.result.now (state_at t.types.items k c.index.result.now w c.index.ensures))

pub returns-in-None-clause-none : goal.returns-in-None-clause-none
returns-in-None-clause-none c =
    let t = c.args.self.now in
    let n = t.naming.now in
    let many = as_many n.table.now.entries.items in
    let k = c.args.number in
    let here : k < length n.table.now.entries.items = c.requires.there in
    let l : k < length (entries_in n) = omega arith in
    let same = c.requires.types.types.many in
    let w : k < length t.types.items = omega arith in
    subst (λ (z : Option Counted). Settles (entries_in n) n.implemented k z) c.in-None.is
    (settled_at (entries_in n) n.implemented t.types.items k (c.requires.types.types.done k l) c.index.result.now (state_at t.types.items k c.index.result.now w c.index.ensures))
