use Rattle.std.specs.Prelude.{map}
use Rattle.ref_heap.specs.Words.{cell_of}
use Rattle.dis_values.specs.Making.{serial_of}
use Rattle.dis_values.proofs.Consed.{consed}
use Rattle.dis_values.proofs.lists.cons.Goals as goal

pub returns-clause-list : goal.returns-clause-list
returns-clause-list c = consed c.add.result c.args.heap.now c.add.new.self c.in_ok-words.words (serial_of c.args.tail) (map cell_of c.args.element.now) c.stands.ensures c.in_ok-words.ensures c.add.ensures.serial c.add.ensures.ok
