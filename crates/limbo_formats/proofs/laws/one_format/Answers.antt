use Rattle.limbo_formats.proofs.Formats.{one_format}
use Rattle.limbo_formats.proofs.laws.one_format.Goals as goal

pub returns : goal.returns
returns c = one_format
