use Rattle.dis_steps.proofs.Tabled.{forms_obey}
use Rattle.dis_steps.proofs.laws.forms_obey.Goals as goal

pub returns : goal.returns
returns c = λ limit o x p i k. forms_obey limit o x p i k
