use Rattle.limbo_type_names.proofs.Unique.{no_type_stands}
use Rattle.limbo_type_names.proofs.laws.no_type_stands_for_none.Goals as goal

pub returns : goal.returns
returns c = λ es m k u once. no_type_stands es m once k u
