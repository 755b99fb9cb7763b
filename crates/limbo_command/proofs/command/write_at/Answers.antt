use Rattle.std.proofs.Common.{refl}
use Rattle.limbo_command.proofs.Unchanged.{untouched}
use Rattle.limbo_command.proofs.command.write_at.Goals as goal

pub returns-in_default-clause-left : goal.returns-in_default-clause-left
returns-in_default-clause-left g c = untouched _ _ c.args.path.now refl
