use Rattle.limbo_body_types.proofs.Failing as failing
use Rattle.limbo_body_types.proofs.laws.fails_or_means.Goals as goal

pub returns : goal.returns
returns c = λ k b t e u never f h. failing.fails_or_means k b t e u never f h
