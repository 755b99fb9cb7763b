use Rattle.rows_texts.proofs.Characters as proved
use Rattle.rows_texts.proofs.laws.characters_go.Goals as goal

pub returns : goal.returns
returns c = proved.characters_go
