use Rattle.limbo_bytes.proofs.Reading.{bytes_are_read}
use Rattle.limbo_bytes.proofs.laws.bytes_are_read.Goals as goal

pub returns : goal.returns
returns c = bytes_are_read
