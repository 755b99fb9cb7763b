use Rattle.source_names.proofs.Refused.{one_scope}
use Rattle.source_names.proofs.laws.one_scope.Goals as goal

pub returns : goal.returns
returns c = λ told path tree es fs m n t d e. one_scope told t path tree es fs m n d e
