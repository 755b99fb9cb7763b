use Rattle.value_code.proofs.Having as having
use Rattle.value_code.proofs.laws.objects_have.Goals as goal

pub returns : goal.returns
returns c = having.objects_have
