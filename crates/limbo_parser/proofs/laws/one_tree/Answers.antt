use Rattle.limbo_parser.proofs.Trees.{one_tree}
use Rattle.limbo_parser.proofs.laws.one_tree.Goals as goal

pub returns : goal.returns
returns c = one_tree
