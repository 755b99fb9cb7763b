use Rattle.rows_leading.proofs.Leading.{suiting_lead}
use Rattle.rows_leading.proofs.laws.suiting_lead.Goals as goal

pub returns : goal.returns
returns c = suiting_lead
