use Rattle.limbo_source_sound.proofs.Constant.{constants_typed}
use Rattle.limbo_source_sound.proofs.laws.constants_have_types.Goals as goal

pub returns : goal.returns
returns c = λ es m name k is. constants_typed es m name k is
