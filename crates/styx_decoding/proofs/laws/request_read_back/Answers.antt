use Rattle.styx_decoding.proofs.OneSpelling.{back_t}
use Rattle.styx_decoding.proofs.laws.request_read_back.Goals as goal

pub returns : goal.returns
returns c = back_t
