use Rattle.limbo_type_names.proofs.Failing as failing
use Rattle.limbo_type_names.proofs.laws.fails_or_means.Goals as goal

pub returns : goal.returns
returns c = λ es m scope t e u once never f h. failing.fails_or_means es m scope once t e u never f h
