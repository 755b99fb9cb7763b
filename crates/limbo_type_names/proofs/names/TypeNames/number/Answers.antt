use Rattle.std.proofs.Common.{arith}
use Rattle.limbo_naming.proofs.Places.{state_at}
use Rattle.limbo_type_names.proofs.Knowing.{number_within}
use Rattle.limbo_type_names.proofs.names.TypeNames.number.Goals as goal

pub index-requires : goal.index-requires
index-requires c =
    let l = number_within c.args.self.now.naming.now.table.now.entries.items c.args.self.now.numbers.items c.args.number c.requires.types.numbers c.requires.there in
    let e = c.args.self.now.numbers.ok.0 in
    omega arith

pub returns : goal.returns
returns c = λ e i.
    let l = number_within c.args.self.now.naming.now.table.now.entries.items c.args.self.now.numbers.items c.args.number c.requires.types.numbers c.requires.there in
    let a = state_at c.args.self.now.numbers.items c.args.number c.index.result.now l c.index.ensures in
    let b = c.requires.types.numbers c.args.number e i in
    cc
