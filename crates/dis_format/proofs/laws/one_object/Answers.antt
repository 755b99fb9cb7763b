use Rattle.dis_format.proofs.Whole.{one_object}
use Rattle.dis_format.proofs.laws.one_object.Goals as goal

pub returns : goal.returns
returns c = one_object
