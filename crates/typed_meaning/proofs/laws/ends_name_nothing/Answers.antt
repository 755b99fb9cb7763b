use Rattle.typed_meaning.proofs.Endings.{ends_name_nothing}
use Rattle.typed_meaning.proofs.laws.ends_name_nothing.Goals as goal

pub returns : goal.returns
returns c = ends_name_nothing
