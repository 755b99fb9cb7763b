use Rattle.process_ways.proofs.Follows.{ways_follow}
use Rattle.process_ways.proofs.laws.ways_follow.Goals as goal

pub returns : goal.returns
returns g c = ways_follow g.J.OnTheirWay.sides g.J.OnTheirWay.place
