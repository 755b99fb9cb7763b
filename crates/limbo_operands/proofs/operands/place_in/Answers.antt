use Rattle.limbo_operands.proofs.Nodes.{reads_none}
use Rattle.limbo_operands.proofs.operands.place_in.Goals as goal

pub returns : goal.returns
returns c = record { found = tt; none = reads_none c.args.node c.in_default.not-Read }
