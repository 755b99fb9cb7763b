use Rattle.limbo_outline_members.proofs.Numbers.{interface_of}
use Rattle.limbo_outline_members.proofs.laws.interface_of_a_number.Goals as goal

pub returns : goal.returns
returns c = interface_of
