use Rattle.limbo_scope.proofs.Stacks as stacks
use Rattle.limbo_scope.proofs.laws.innermost_counts.Goals as goal

pub returns : goal.returns
returns c = stacks.innermost_counts
