use Rattle.limbo_source_sound.proofs.Constant.{initials_sound}
use Rattle.limbo_source_sound.proofs.laws.initials_are_sound.Goals as goal

pub returns : goal.returns
returns c = λ es m name k initials checked once is so are same. initials_sound es m once name k is so initials checked are same
