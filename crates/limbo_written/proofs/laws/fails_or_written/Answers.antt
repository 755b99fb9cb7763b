use Rattle.limbo_written.proofs.Once.{fails_or_written}
use Rattle.limbo_written.proofs.laws.fails_or_written.Goals as goal

pub returns : goal.returns
returns c = λ k b t r u. fails_or_written k b t r u
