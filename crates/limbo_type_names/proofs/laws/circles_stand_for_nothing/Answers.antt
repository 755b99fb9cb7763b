use Rattle.limbo_type_names.proofs.Circles.{none_circular}
use Rattle.limbo_type_names.proofs.laws.circles_stand_for_nothing.Goals as goal

pub returns : goal.returns
returns c = λ es m k u once w s. none_circular es m once k u w s
