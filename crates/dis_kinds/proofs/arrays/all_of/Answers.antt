use Rattle.std.proofs.Common.{ap}
use Rattle.dis_meaning.specs.Words as words
use Rattle.dis_memory.specs.Kinds as meaning
use Rattle.dis_kinds.proofs.Heaps.{there, gone}
use Rattle.dis_kinds.proofs.Found.{at_serial}
use Rattle.dis_kinds.proofs.arrays.all_of.Goals as goal

pub returns-in-Ok-clause-elements : goal.returns-in-Ok-clause-elements
returns-in-Ok-clause-elements c =
    let m = c.args.memory.now in
    let a = c.args.array in
    let h = there m a.serial c.in-Ok.kind c.stands.ensures (c.in-Ok.ensures {u = tt}) in
    at_serial m a c.whole.result c.in-Ok.kind h (meaning.all_of a.serial) c.whole.ensures.array (c.whole.ensures.elements m.tables h.live.content)

pub returns-in-Err-clause-elements : goal.returns-in-Err-clause-elements
returns-in-Err-clause-elements c =
    let a = c.args.array in
    ap (λ b. words.◌>>=◌ b (meaning.all_of a.serial)) (gone c.args.memory.now a.serial c.in-Err.field-0 c.stands.ensures (c.in-Err.ensures {u = tt}))
