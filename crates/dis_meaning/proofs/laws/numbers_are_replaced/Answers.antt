use Rattle.dis_meaning.proofs.Replacing as proved
use Rattle.dis_meaning.proofs.laws.numbers_are_replaced.Goals as goal

pub returns : goal.returns
returns c = proved.numbers_are_replaced
