use Rattle.limbo_meaning.proofs.ProcessNames.{processes_name_so}
use Rattle.limbo_meaning.proofs.TreeNames.{trees_name_so}
use Rattle.limbo_meaning.proofs.laws.names_come_from.Goals as goal

pub returns-clause-trees : goal.returns-clause-trees
returns-clause-trees c = trees_name_so

pub returns-clause-processes : goal.returns-clause-processes
returns-clause-processes c = processes_name_so
