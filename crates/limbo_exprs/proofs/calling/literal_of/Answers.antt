use Rattle.limbo_exprs.proofs.Tested.{no_text}
use Rattle.limbo_exprs.proofs.calling.literal_of.Goals as goal

pub returns-in_default : goal.returns-in_default
returns-in_default c = record { found = tt; none = no_text c.args.e.now c.in_default.not-Chars }
