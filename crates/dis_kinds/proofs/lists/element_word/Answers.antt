use Rattle.ref_heap.specs.Store.{at}
use Rattle.dis_kinds.proofs.Chained.{word_found, word_missed}
use Rattle.dis_kinds.proofs.lists.element_word.Goals as goal

pub returns-in-Ok-get : goal.returns-in-Ok-get
returns-in-Ok-get c = word_found (at c.args.memory.now.heap c.args.cell.serial) c.args.k c.in-Ok-get.word (c.in-Ok-get.ensures {u = tt})

pub returns-in-Err : goal.returns-in-Err
returns-in-Err c = word_missed (at c.args.memory.now.heap c.args.cell.serial) c.args.k c.in-Err.field-0 (c.in-Err.ensures {u = tt})
