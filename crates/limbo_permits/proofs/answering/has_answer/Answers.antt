use Rattle.limbo_permits.proofs.Told.{answer_told}
use Rattle.limbo_permits.proofs.answering.has_answer.Goals as goal

pub returns : goal.returns
returns c = answer_told c.args.e.now c.is_some_type.result c.is_some_type.ensures
