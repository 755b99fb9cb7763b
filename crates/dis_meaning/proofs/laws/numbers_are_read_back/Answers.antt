use Rattle.dis_meaning.proofs.ReadBack as proved
use Rattle.dis_meaning.proofs.laws.numbers_are_read_back.Goals as goal

pub returns : goal.returns
returns c = proved.read_back
