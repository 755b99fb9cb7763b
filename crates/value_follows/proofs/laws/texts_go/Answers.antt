use Rattle.value_follows.proofs.Texts as proved
use Rattle.value_follows.proofs.laws.texts_go.Goals as goal

pub returns : goal.returns
returns c = proved.texts_go
