use Rattle.dis_serials.proofs.Given.{serials_are_given}
use Rattle.dis_serials.proofs.laws.serials_are_given.Goals as goal

pub returns : goal.returns
returns c = serials_are_given
