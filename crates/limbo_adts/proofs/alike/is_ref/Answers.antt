use Rattle.limbo_adts.proofs.Likeness.{no_ref}
use Rattle.limbo_adts.proofs.alike.is_ref.Goals as goal

pub returns-in_default : goal.returns-in_default
returns-in_default c = no_ref c.args.t.now c.args.number c.in_default.not-RefAdt c.in_default.not-RefPick
