use Rattle.std.proofs.Common.{length, ap, arith}
use Rattle.dis_places.specs.Regions.{words_here}
use Rattle.dis_moves.proofs.Moved.{bytes_long, over_fault, over_put}
use Rattle.dis_moves.proofs.moves.byte_words.Goals as goal

pub bytes_over-requires-clause-few : goal.bytes_over-requires-clause-few
bytes_over-requires-clause-few c =
    let l = bytes_long (words_here c.args.memory.now.heap c.args.process.now c.args.source) c.args.from c.args.count c.in-Ok.bytes.items c.in-Ok.ensures in
    let d = ap length c.deref.ensures.value in
    let f = c.requires.few in
    omega (arith, l, d, f)

pub returns-in-Ok-clause-put : goal.returns-in-Ok-clause-put
returns-in-Ok-clause-put c =
    over_put (words_here c.args.memory.now.heap c.args.process.now c.args.source) c.args.from (words_here c.args.memory.now.heap c.args.process.now c.args.target) c.args.to c.args.count
    c.in-Ok.bytes.items c.deref.result.now c.bytes_over.result c.in-Ok.ensures c.deref.ensures.value c.bytes_over.ensures.put

pub returns-in-Ok-clause-fault : goal.returns-in-Ok-clause-fault
returns-in-Ok-clause-fault c =
    over_fault (words_here c.args.memory.now.heap c.args.process.now c.args.source) c.args.from (words_here c.args.memory.now.heap c.args.process.now c.args.target) c.args.to c.args.count
    c.in-Ok.bytes.items c.deref.result.now c.bytes_over.result c.in-Ok.ensures c.deref.ensures.value c.bytes_over.ensures.fault
