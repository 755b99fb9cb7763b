use Rattle.limbo_source_sound.proofs.Through.{imports_through}
use Rattle.limbo_source_sound.proofs.laws.imports_come_through.Goals as goal

pub returns : goal.returns
returns c = λ es m name k once is. imports_through es m name k once is
