use Rattle.dis_meaning.proofs.Given as proved
use Rattle.dis_meaning.proofs.laws.serials_are_given.Goals as goal

pub returns : goal.returns
returns c = proved.serials_are_given
