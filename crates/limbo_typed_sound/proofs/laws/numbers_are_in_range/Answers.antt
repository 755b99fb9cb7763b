use Rattle.limbo_typed_sound.proofs.Spelled.{spelled}
use Rattle.limbo_typed_sound.proofs.Tokens.{tokens}
use Rattle.limbo_typed_sound.proofs.laws.numbers_are_in_range.Goals as goal

pub returns : goal.returns
returns c = record { spelled = λ e behind h. (spelled e behind h).0; token = tokens }
