use Rattle.std.proofs.lemmas.Str.{encodes_same}
use Rattle.inf_text.proofs.laws.one_spelling.Goals as goal

pub returns : goal.returns
returns c s t same = encodes_same s t same
