use Rattle.value_code.proofs.Constants as constants
use Rattle.value_code.proofs.laws.constants_lie_apart.Goals as goal

pub returns : goal.returns
returns c = constants.constants_lie_apart
