use Rattle.dis_format.proofs.Shortest.{read_back}
use Rattle.dis_format.proofs.laws.read_back.Goals as goal

pub returns : goal.returns
returns c = read_back
