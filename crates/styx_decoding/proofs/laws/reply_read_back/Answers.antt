use Rattle.styx_decoding.proofs.OneSpelling.{back_r}
use Rattle.styx_decoding.proofs.laws.reply_read_back.Goals as goal

pub returns : goal.returns
returns c = back_r
