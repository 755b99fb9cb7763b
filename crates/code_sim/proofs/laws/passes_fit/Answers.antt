use Rattle.part_code.proofs.Functions.{part_is_proper}
use Rattle.code_sim.proofs.Small.{all_small}
use Rattle.code_sim.proofs.laws.passes_fit.Goals as goal

pub returns-clause-proper : goal.returns-clause-proper
returns-clause-proper c = part_is_proper

pub returns-clause-small : goal.returns-clause-small
returns-clause-small c = λ m part fits. all_small m part fits
