use Rattle.limbo_outline_members.proofs.Numbers.{signature_of}
use Rattle.limbo_outline_members.proofs.laws.signature_of_a_number.Goals as goal

pub returns : goal.returns
returns c = signature_of
