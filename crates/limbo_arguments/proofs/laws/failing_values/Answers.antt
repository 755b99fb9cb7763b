use Rattle.limbo_arguments.proofs.Each.{each_fails, all_fail}
use Rattle.limbo_arguments.proofs.laws.failing_values.Goals as goal

pub returns : goal.returns
returns c = record { each = each_fails; all = all_fail }
