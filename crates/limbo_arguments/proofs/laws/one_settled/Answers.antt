use Rattle.limbo_arguments.proofs.Each.{each_once, all_once, each_stand, all_stand}
use Rattle.limbo_arguments.proofs.laws.one_settled.Goals as goal

pub returns : goal.returns
returns c = record { each = each_once; all = all_once; each_stand = each_stand; all_stand = all_stand }
