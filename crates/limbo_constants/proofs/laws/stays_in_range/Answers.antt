use Rattle.limbo_constants.proofs.Ranges as ranges
use Rattle.limbo_constants.proofs.laws.stays_in_range.Goals as goal

pub returns : goal.returns
returns c = ranges.stays_in_range
