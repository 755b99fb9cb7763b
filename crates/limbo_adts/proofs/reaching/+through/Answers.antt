use Rattle.std.proofs.Common.{sym}
use Rattle.limbo_adts.proofs.Likeness.{no_name}
use Rattle.limbo_adts.proofs.reaching.+through.Goals as goal

pub through-returns-in_default : goal.through-returns-in_default
through-returns-in_default t c =
    sym (no_name c.args.t.now _ c.in_default.not-Array c.in_default.not-List c.in_default.not-Chan c.in_default.not-Tuple c.in_default.not-Adt c.in_default.not-RefAdt c.in_default.not-RefPick)
