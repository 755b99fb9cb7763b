use Rattle.std.proofs.Common.{sym, subst}
use Rattle.dis_code.specs.Loaded.{IsLoaded}
use Rattle.dis_steps.proofs.steps.run.Goals as goal

pub obey-requires-clause-loaded : goal.obey-requires-clause-loaded
obey-requires-clause-loaded c =
    let t = c.in-Ok.ensures.there in
    subst (IsLoaded c.args.memory.now.tables) (sym t.3) (c.requires.loaded t.0 t.1 t.2)
