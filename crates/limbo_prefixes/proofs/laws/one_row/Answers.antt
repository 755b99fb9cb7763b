use Rattle.limbo_prefixes.proofs.OneTable.{unary_once}
use Rattle.limbo_prefixes.proofs.laws.one_row.Goals as goal

pub returns : goal.returns
returns c = unary_once
