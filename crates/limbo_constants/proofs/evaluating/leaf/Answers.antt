use Rattle.limbo_constants.proofs.Others.{not_leaf}
use Rattle.limbo_constants.proofs.evaluating.leaf.Goals as goal

pub returns-in_default : goal.returns-in_default
returns-in_default g c =
    not_leaf (g.K.Known.meant c.args.known.now) c.args.e.now c.in_default.not-Number c.in_default.not-Chars c.in_default.not-Name
    c.in_default.not-Arrow c.in_default.not-Dot
