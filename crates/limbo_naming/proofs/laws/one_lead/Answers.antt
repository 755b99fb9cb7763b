use Rattle.limbo_naming.proofs.Unique as unique
use Rattle.limbo_naming.proofs.laws.one_lead.Goals as goal

pub returns : goal.returns
returns c = λ es m j r s once. unique.one_lead es m once j r s
