use Rattle.styx_decoding.proofs.OneSpelling.{one_r}
use Rattle.styx_decoding.proofs.laws.one_reply.Goals as goal

pub returns : goal.returns
returns c = one_r
