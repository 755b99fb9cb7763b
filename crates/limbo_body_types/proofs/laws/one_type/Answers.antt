use Rattle.limbo_body_types.proofs.Unique as unique
use Rattle.limbo_body_types.proofs.laws.one_type.Goals as goal

pub returns : goal.returns
returns c = λ k b t u v. unique.one_type k b t u v
