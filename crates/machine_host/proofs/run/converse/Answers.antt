use Rattle.machine_host.proofs.Ended.{some_end}
use Rattle.machine_host.proofs.run.converse.Goals as goal

pub returns-clause-ended : goal.returns-clause-ended
returns-clause-ended g c = some_end c.ended.result _ c.is_none.result c.ended.ensures c.is_none.ensures c.loop-alloc-test.false
