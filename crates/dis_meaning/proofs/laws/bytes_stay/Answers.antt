use Rattle.dis_meaning.proofs.ReadBack as proved
use Rattle.dis_meaning.proofs.laws.bytes_stay.Goals as goal

pub returns : goal.returns
returns c = proved.bytes_stay
