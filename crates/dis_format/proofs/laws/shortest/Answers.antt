use Rattle.dis_format.proofs.Shortest.{spelled, least}
use Rattle.dis_format.proofs.laws.shortest.Goals as goal

pub returns-clause-spelled : goal.returns-clause-spelled
returns-clause-spelled c = spelled

pub returns-clause-least : goal.returns-clause-least
returns-clause-least c = least
