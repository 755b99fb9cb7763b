use Rattle.std.proofs.Common.{sym}
use Rattle.dis_stores.proofs.Takes.{exchanged}
use Rattle.dis_stores.proofs.exchanges.exchange.Goals as goal

pub returns-clause-exchanged : goal.returns-clause-exchanged
returns-clause-exchanged c =
    let t = c.in_ok-make_room.ensures.takes in
    exchanged c.args.heap.now c.make_room.new.heap c.set_word.new.self c.args.block.serial c.args.k c.args.new c.in-Ok.word t c.in-Ok.ensures
    (sym (c.if-not-fits.ensures {u = tt})) (c.in-Ok-set_word.ensures.ok t.now t.is) c.in-Ok-set_word.ensures.outside
