use Rattle.limbo_constants.proofs.Sorted as sorted
use Rattle.limbo_constants.proofs.laws.has_its_sort.Goals as goal

pub returns : goal.returns
returns c = sorted.has_its_sort
