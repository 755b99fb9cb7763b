use Rattle.core_code.proofs.Slotted.{three_slots_a_node}
use Rattle.core_code.proofs.laws.three_slots_a_node.Goals as goal

pub returns : goal.returns
returns c = three_slots_a_node
