use Rattle.std.proofs.Common.{ap}
use Rattle.dis_meaning.specs.Words as words
use Rattle.dis_memory.specs.Kinds as meaning
use Rattle.dis_kinds.proofs.Heaps.{there, gone}
use Rattle.dis_kinds.proofs.Chained.{cell_seen}
use Rattle.dis_kinds.proofs.lists.cell_in.Goals as goal

pub returns-in-Ok : goal.returns-in-Ok
returns-in-Ok c =
    let m = c.args.memory.now in
    let h = there m c.args.block.serial c.in-Ok.kind c.stands.ensures (c.in-Ok.ensures {u = tt}) in
    cell_seen m c.args.block c.cell_kind.result c.in-Ok.kind h (c.cell_kind.ensures m.tables h.live.content)

pub returns-in-Err : goal.returns-in-Err
returns-in-Err c =
    ap (λ b. words.◌>>=◌ b meaning.cell_in) (gone c.args.memory.now c.args.block.serial c.in-Err.field-0 c.stands.ensures (c.in-Err.ensures {u = tt}))
