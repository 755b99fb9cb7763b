use Rattle.limbo_channels.proofs.Channels.{sends_once}
use Rattle.limbo_channels.proofs.laws.one_send.Goals as goal

pub returns : goal.returns
returns c = sends_once
