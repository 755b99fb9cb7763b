use Rattle.limbo_meaning.proofs.Endings.{ends_let_go}
use Rattle.limbo_meaning.proofs.laws.ends_let_go.Goals as goal

pub returns : goal.returns
returns c = ends_let_go
