use Rattle.core_code.proofs.Counts.{four_a_tree_node}
use Rattle.core_code.proofs.laws.four_a_tree_node.Goals as goal

pub returns : goal.returns
returns c = four_a_tree_node
