use Rattle.std.proofs.Common.{sym}
use Rattle.ref_heap.specs.Store.{at}
use Rattle.dis_places.specs.Words.{view_words}
use Rattle.dis_stores.proofs.Blocks.{gives_same}
use Rattle.dis_moves.proofs.Typed.{behind_typed, element_live}
use Rattle.dis_moves.proofs.elements.element_value.Goals as goal

pub returns-clause-words : goal.returns-clause-words
returns-clause-words c =
    gives_same c.typed_words.result _ _ (λ found. view_words found.items) (sym (behind_typed c.args.desc.now (at c.args.memory.now.heap c.args.cell.serial))) c.typed_words.ensures

pub returns-clause-live : goal.returns-clause-live
returns-clause-live c = element_live c.args.memory.now c.args.cell c.stands.ensures c.args.desc.now 1 c.typed_words.result c.typed_words.ensures
