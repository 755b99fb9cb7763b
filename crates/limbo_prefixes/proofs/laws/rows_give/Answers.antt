use Rattle.limbo_prefixes.proofs.Giving.{unary_gives, bytes_give}
use Rattle.limbo_prefixes.proofs.laws.rows_give.Goals as goal

pub returns : goal.returns
returns c = record { unary = unary_gives; bytes = bytes_give }
