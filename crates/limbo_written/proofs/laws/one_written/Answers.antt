use Rattle.limbo_written.proofs.Once.{one_written}
use Rattle.limbo_written.proofs.laws.one_written.Goals as goal

pub returns : goal.returns
returns c = λ k b t u v. one_written k b t u v
