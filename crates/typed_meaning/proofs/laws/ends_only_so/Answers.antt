use Rattle.typed_meaning.proofs.Breaks.{ends_only_so}
use Rattle.typed_meaning.proofs.laws.ends_only_so.Goals as goal

pub returns : goal.returns
returns c = ends_only_so
