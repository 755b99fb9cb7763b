use Rattle.limbo_source_sound.proofs.Numbers.{is_outside}
use Rattle.limbo_source_sound.proofs.laws.names_are_known.Goals as goal

pub returns : goal.returns
returns c = λ es m name k scopes is out. is_outside es m name k is scopes out
