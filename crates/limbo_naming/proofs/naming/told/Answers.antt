use Rattle.limbo_naming.proofs.Telling.{nothing}
use Rattle.limbo_naming.proofs.naming.told.Goals as goal

pub returns-in_default : goal.returns-in_default
returns-in_default c = λ es m states scope q a d s.
    nothing es m states scope q a d c.args.found c.in_default.not-Named c.in_default.not-Unknown s
