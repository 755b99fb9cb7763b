use Rattle.std.proofs.Common.{refl}
use Rattle.inf_text.proofs.laws.read_back.Goals as goal

pub returns : goal.returns
returns c s characters = (s, (characters, refl))
