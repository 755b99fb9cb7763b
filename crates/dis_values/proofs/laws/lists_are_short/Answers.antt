use Rattle.dis_values.proofs.Counted.{short}
use Rattle.dis_values.proofs.laws.lists_are_short.Goals as goal

pub returns : goal.returns
returns c h list xs ok l = short h list xs ok l
