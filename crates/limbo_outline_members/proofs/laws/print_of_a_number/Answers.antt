use Rattle.limbo_outline_members.proofs.Numbers.{print_of}
use Rattle.limbo_outline_members.proofs.laws.print_of_a_number.Goals as goal

pub returns : goal.returns
returns c = print_of
