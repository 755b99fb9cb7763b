use Rattle.core_code.proofs.Names.{references_go_so}
use Rattle.core_code.proofs.laws.references_go_so.Goals as goal

pub returns : goal.returns
returns c = references_go_so
