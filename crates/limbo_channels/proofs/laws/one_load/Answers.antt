use Rattle.limbo_channels.proofs.Channels.{loads_once}
use Rattle.limbo_channels.proofs.laws.one_load.Goals as goal

pub returns : goal.returns
returns c = loads_once
