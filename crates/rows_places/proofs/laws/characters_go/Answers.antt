use Rattle.rows_places.proofs.CharacterReads as proved
use Rattle.rows_places.proofs.laws.characters_go.Goals as goal

pub returns : goal.returns
returns c = proved.characters_go
