use Rattle.dis_isa.proofs.op.code_of.Goals as goal
use Rattle.dis_isa.proofs.Table.{stands_at_tag}

pub returns : goal.returns
returns c = stands_at_tag c.args.op
