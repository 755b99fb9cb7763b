use Rattle.dis_results.proofs.Cells.{rest_live}
use Rattle.dis_results.proofs.heads.rest_behind.Goals as goal

pub returns-clause-live : goal.returns-clause-live
returns-clause-live c = rest_live c.args.memory.now c.args.cell c.rest_of.result c.stands.ensures c.rest_of.ensures
