use Rattle.core_code.proofs.Typed.{eight_a_node}
use Rattle.core_code.proofs.laws.eight_a_node.Goals as goal

pub returns : goal.returns
returns c = eight_a_node
