use Rattle.typed_lower.proofs.Keeps as proved
use Rattle.typed_lower.proofs.laws.code_keeps.Goals as goal

pub returns-clause-keeps : goal.returns-clause-keeps
returns-clause-keeps c = proved.keeps

pub returns-clause-journals : goal.returns-clause-journals
returns-clause-journals c = proved.journals
