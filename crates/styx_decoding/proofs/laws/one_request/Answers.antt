use Rattle.styx_decoding.proofs.OneSpelling.{one_t}
use Rattle.styx_decoding.proofs.laws.one_request.Goals as goal

pub returns : goal.returns
returns c = one_t
