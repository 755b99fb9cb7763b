use Rattle.limbo_scope.proofs.Stacks as stacks
use Rattle.limbo_scope.proofs.laws.gives_back.Goals as goal

pub returns : goal.returns
returns c = stacks.gives_back
