use Rattle.process_model.proofs.Once.{journals_take_once}
use Rattle.process_model.proofs.laws.journals_take_once.Goals as goal

pub returns : goal.returns
returns g c = λ follows k w x p q r e st. journals_take_once g.J.Joining.sides follows k w x p q r e st
