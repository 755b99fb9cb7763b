use Rattle.limbo_formats.proofs.Formats.{asked_as}
use Rattle.limbo_formats.proofs.laws.pieces_ask.Goals as goal

pub returns : goal.returns
returns c = asked_as
