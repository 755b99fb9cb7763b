use Rattle.dis_places.specs.Words.{view_word}
use Rattle.dis_results.proofs.Cells.{element_live}
use Rattle.dis_results.proofs.heads.element_reference.Goals as goal

pub returns-in-Ok-clause-live : goal.returns-in-Ok-clause-live
returns-in-Ok-clause-live c =
    element_live c.args.memory.now c.args.cell 0 (view_word c.in-Ok.word) c.reference.result c.stands.ensures c.in-Ok.ensures c.reference.ensures
