use Rattle.heap_cuts.proofs.Listed.{counts_shapes, names_shapes}
use Rattle.heap_cuts.proofs.laws.names.Goals as goal

pub returns-clause-inside : goal.returns-clause-inside
returns-clause-inside c h n = names_shapes h n

pub returns-clause-count : goal.returns-clause-count
returns-clause-count c h ok n = counts_shapes h ok n
