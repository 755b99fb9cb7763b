use Rattle.rows_lists.proofs.Channels as proved
use Rattle.rows_lists.proofs.laws.channels_go.Goals as goal

pub returns : goal.returns
returns c = proved.channels_go
