use Rattle.limbo_paths.specs.Paths.{Through}
use Rattle.limbo_paths.proofs.Ways.{leave_all}
use Rattle.limbo_paths.proofs.laws.answers_never_end.Goals as goal

pub returns : goal.returns
returns c defs body never r = never (leave_all defs body Through r)
