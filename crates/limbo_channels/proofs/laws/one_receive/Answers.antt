use Rattle.limbo_channels.proofs.Channels.{receives_once}
use Rattle.limbo_channels.proofs.laws.one_receive.Goals as goal

pub returns : goal.returns
returns c = receives_once
