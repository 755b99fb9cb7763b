use Rattle.core_frames.proofs.Nodes.{nodes_fit}
use Rattle.core_frames.proofs.laws.nodes_fit.Goals as goal

pub returns : goal.returns
returns c = nodes_fit
