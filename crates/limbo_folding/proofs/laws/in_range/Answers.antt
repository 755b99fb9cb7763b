use Rattle.limbo_folding.proofs.Ranges as ranges
use Rattle.limbo_folding.proofs.laws.in_range.Goals as goal

pub returns : goal.returns
returns c = λ defs e v h is. ranges.in_range defs e v h is
