use Rattle.styx_decoding.proofs.OneSpelling.{apart}
use Rattle.styx_decoding.proofs.laws.one_direction.Goals as goal

pub returns : goal.returns
returns c = apart
